-- `rules::by_name` meets its contract: name by name. Assumes nothing.
use Rattle.std.specs.Prelude.{Some, None}
use mathlib.Core.Bool.{false, true}
use mathlib.Core.List.{List}
use mathlib.Core.Path.{◌≡◌, sym, ◌∙◌}
use Prim.Native.Nat.{ℕ}
use Rattle.rules.specs.Rules.{by_name, name_of_rules, same_bytes}
use Rattle.rules.specs.declared.Rules.TheVariants.{FreeType, Skrifa}
use Rattle.rules.proofs.by_name.Goals as goal

is_skrifa : (name : List ℕ) → same_bytes name (name_of_rules Skrifa) ≡ true → Some Skrifa ≡ by_name name
unfolding by_name
is_skrifa name e = rw e

is_freetype : (name : List ℕ) → same_bytes name (name_of_rules Skrifa) ≡ false → same_bytes name (name_of_rules FreeType) ≡ true → Some FreeType ≡ by_name name
unfolding by_name
is_freetype name n e = rw (n, e)

is_none : (name : List ℕ) → same_bytes name (name_of_rules Skrifa) ≡ false → same_bytes name (name_of_rules FreeType) ≡ false → None ≡ by_name name
unfolding by_name
is_none name n e = rw (n, e)

pub returns-then-same_bytes : goal.returns-then-same_bytes
returns-then-same_bytes c = let s = c in is_skrifa s.args.name.now (sym c.same_bytes.ensures ∙ c.if-same_bytes.true)

pub returns-then-same_bytes-2 : goal.returns-then-same_bytes-2
returns-then-same_bytes-2 c = let s = c in let f = c in
    is_freetype s.args.name.now (sym f.same_bytes.ensures ∙ f.if-same_bytes.false) (sym c.same_bytes-2.ensures ∙ c.if-same_bytes-2.true)

pub returns : goal.returns
returns c = let s = c in let f = c in
    is_none s.args.name.now (sym f.same_bytes.ensures ∙ f.if-same_bytes.false) (sym c.same_bytes-2.ensures ∙ c.if-same_bytes-2.false)
