-- The rules that a run can be given, by their numbers and by their names: document 02, K9. What each changes stands in docs/RULE-EDITIONS.md. Assumes nothing.
use Rattle.std.specs.Prelude.{ℕ, Bool, cond, false, true, ◌&&◌, List, [], ◌∷◌, eqb, Option, Some, None}
use Rattle.rules.specs.declared.Rules.TheVariants.{FreeType, Skrifa}
use Rattle.rules.specs.declared.Rules.{Rules}

-- ---- the one table
abbrev pub number_of_rules : Rules → ℕ
number_of_rules Skrifa = 0
number_of_rules FreeType = 1

-- in ASCII
abbrev pub name_of_rules : Rules → List ℕ
name_of_rules Skrifa = 115 ∷ 107 ∷ 114 ∷ 105 ∷ 102 ∷ 97 ∷ []  -- skrifa
name_of_rules FreeType = 102 ∷ 114 ∷ 101 ∷ 101 ∷ 116 ∷ 121 ∷ 112 ∷ 101 ∷ []  -- freetype

-- ---- read back
unfoldable pub same_bytes : List ℕ → List ℕ → Bool
same_bytes [] [] = true
same_bytes [] (y ∷ ys) = false
same_bytes (x ∷ xs) [] = false
same_bytes (x ∷ xs) (y ∷ ys) = eqb x y && same_bytes xs ys

abbrev pub by_test : (Rules → Bool) → Option Rules
by_test is = cond (is Skrifa) (Some Skrifa) (cond (is FreeType) (Some FreeType) None)

unfoldable pub by_number : ℕ → Option Rules
by_number number = by_test λ rules. eqb number (number_of_rules rules)

unfoldable pub by_name : List ℕ → Option Rules
by_name name = by_test λ rules. same_bytes name (name_of_rules rules)
