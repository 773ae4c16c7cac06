-- A piece behind what waits: first the words that end the unfinished line, then the others. Assumes nothing.
use Rattle.std.specs.Prelude.{⊤, Result, Ok, Err}
use Rattle.answer.specs.declared.Refusal.{Refusal}
use mathlib.Core.Bool.{Bool, false, true, true≢false}
use mathlib.Core.List.{List, [], ◌++◌}
use mathlib.Core.Logic.{◌⊎◌, inl, inr}
use mathlib.Core.Path.{◌∙◌, ◌≡◌, ap, refl, subst, sym}
use Prim.Native.Nat.{ℕ, ◌+◌, ◌-◌, ◌≤◌}
use native.Mathlib.Nat.{add-zero}
use native.Mathlib.Omega.{arith}
use lib.IntN.{ℤ, pos}
use lib.ListN.{drop, get_or, length, length-append, take, take-append-drop}
use lib.Seq.{drop-append-add, drop-length, get_or-take, length-take-le, take-length}
use Rattle.int.specs.Word.{index_of}
use Rattle.line.specs.World.{Fixed, World}
use Rattle.run_step.specs.Step.{Went, step_of}
use Rattle.feed_look.specs.Look.{look_by, look_of, most_line}
use Rattle.feed_look.specs.declared.Seen.TheVariants.{Whole}
use Rattle.feed_look.proofs.Looks.{all, whole_is}
use Rattle.feed_carry.specs.Carry.{said_is_open, waits}
use Rattle.feed_carry.specs.declared.Fed.{Fed}
use Rattle.graphics.specs.declared.GraphicsState.{GraphicsState}
use Rattle.feed_carry.specs.Steps.{FirstIs, rest_by}
use Rattle.feed_carry.specs.declared.Begins.{Begins}
use Rattle.feed_carry.specs.declared.Begins.TheVariants.{Run, Settled}
use Rattle.feed.specs.Feed.{Feeding, Left, after_call, after_line, begun, fed_all, going, handed}
use Rattle.feed.proofs.Calls.{left_of, none_waits, put_away}
use Rattle.feed.proofs.Words.{all_wait, are_line, cut, stays}

-- a whole line's words alone are that line
line_alone : (q : List ℤ) {k : ℕ} → look_of q ≡ Whole k → look_of (take k q) ≡ Whole k
line_alone q {k} e =
    let c = index_of (get_or q 1 (pos 0)) in
    let o = index_of (get_or q 0 (pos 0)) in
    let i = whole_is (length q) o c e in
    let n : length (take k q) ≡ c + 2 = length-take-le k q i.there ∙ i.is in
    ap (λ (x : ℤ). look_by (length (take k q)) (index_of x) (index_of (get_or (take k q) 1 (pos 0)))) (get_or-take k q 0 (pos 0) (omega (arith, i.is)))
    ∙ ap (λ (x : ℤ). look_by (length (take k q)) o (index_of x)) (get_or-take k q 1 (pos 0) (omega (arith, i.is)))
    ∙ all (length (take k q)) o c (omega (arith, n)) i.opcode i.known (omega (arith, n)) i.short (omega (arith, n))
    ∙ ap Whole (sym i.is)

module _ (f : Fixed) (base : ℕ) (w : World) (q : List ℤ) (k : ℕ) (fits : k ≤ length q) where
  -- what the first k words come to
  abbrev pub first : Feeding
  first = fed_all f (going base 0 [] w) (take k q)

  line_is : look_of q ≡ Whole k → first ≡ after_line (going base 0 (take k q) w) (step_of f (take k q) 0 w)
  line_is e =
      let l = take k q in
      let n : length l ≡ k = length-take-le k q fits in
      let whole-l : take k l ≡ l = ap (λ (m : ℕ). take m l) (sym n) ∙ take-length l in
      let none : drop (k - 0) l ≡ [] = let z : k - 0 ≡ length l = omega (arith, n) in ap (λ (m : ℕ). drop m l) z ∙ drop-length l in
      are_line f base 0 [] w l none_waits (line_alone q e)
      ∙ ap (λ (x : List ℤ). fed_all f (after_line (going base 0 (take k l) w) (step_of f (take k l) 0 w)) x) none
      ∙ ap (λ (x : List ℤ). after_line (going base 0 x w) (step_of f x 0 w)) whole-l

  done_by : (l : List ℤ) → length l ≡ k → (v : World) (call : Result ⊤ Refusal) → said_is_open (after_call (going base 0 l w) v call).said ≡ true
      → let g = after_call (going base 0 l w) v call in g ≡ going (base + k) g.lines [] g.world
  unfolding after_call said_is_open
  done_by l n v (Ok tt) o = ap (λ (m : ℕ). going (base + m) 1 [] v) n
  done_by l n v (Err why) o = absurd (true≢false (sym o))

  -- where the feed goes on, it stands behind them, and nothing waits
  pub done : (k ≡ 0) ⊎ (look_of q ≡ Whole k) → said_is_open first.said ≡ true → first ≡ going (base + k) first.lines [] first.world
  done (inl z) o =
      let e : first ≡ going base 0 [] w = ap (λ (m : ℕ). fed_all f (going base 0 [] w) (take m q)) z in
      subst (λ (g : Feeding). g ≡ going (base + k) g.lines [] g.world) (sym e) (let b : base ≡ base + k = omega (arith, z) in ap (λ (m : ℕ). going m 0 [] w) b)
  done (inr e) o =
      let r = step_of f (take k q) 0 w in
      let l = line_is e in
      subst (λ (g : Feeding). g ≡ going (base + k) g.lines [] g.world) (sym l)
      (done_by (take k q) (length-take-le k q fits) r.world r.call (subst (λ (g : Feeding). said_is_open g.said ≡ true) l o))

-- words behind those that wait, cut at a place
module _ (f : Fixed) (base : ℕ) (w : World) (p words : List ℤ) (k held : ℕ) (n : length p ≡ held) (waiting : waits (look_of p) ≡ true) (above : held ≤ k) (below : k ≤ held + length words) where
  pub through : fed_all f (going base 0 p w) words ≡ fed_all f (fed_all f (going base 0 [] w) (take k (p ++ words))) (drop (k - held) words)
  through =
      let q = p ++ words in
      let d : drop k q ≡ drop (k - held) words =
      (let m : k ≡ length p + (k - held) = omega (arith, n, above) in ap (λ (i : ℕ). drop i q) m) ∙ drop-append-add p words (k - held) in
      ap (λ (g : Feeding). fed_all f g words) (sym (all_wait f base 0 [] w p none_waits waiting))
      ∙ sym (cut f (going base 0 [] w) p words)
      ∙ ap (fed_all f (going base 0 [] w)) (sym (take-append-drop k q))
      ∙ cut f (going base 0 [] w) (take k q) (drop k q)
      ∙ ap (fed_all f (fed_all f (going base 0 [] w) (take k q))) d

-- ---- a call whose first words were run
module _ (f : Fixed) (base : ℕ) (w : World) (p words carry : List ℤ) (k held : ℕ) (n : length p ≡ held) (waiting : waits (look_of p) ≡ true)
    (above : held ≤ k) (below : k ≤ held + length words) (whole : (k ≡ 0) ⊎ (look_of (p ++ words) ≡ Whole k)) where
  pub fits : k ≤ length (p ++ words)
  fits = omega (arith, below, n, length-append p words)

  abbrev pub begins : Feeding
  begins = first f base w (p ++ words) k fits

  module _ {d : Fed} {carry' : List ℤ} (v : World) (e : left_of d carry' v ≡ handed carry begins) where
    pub stopped_there : said_is_open d.said ≡ false → left_of d carry' v ≡ handed carry (fed_all f (going base 0 p w) words)
    stopped_there o =
        e ∙ ap (handed carry) (sym (stays f begins (drop (k - held) words) (ap (λ (x : Left). said_is_open x.said) (sym e) ∙ o)))
        ∙ sym (ap (handed carry) (through f base w p words k held n waiting above below))

    pub went_on : said_is_open d.said ≡ true → {r : Left}
        → r ≡ handed carry' (fed_all f (going (base + held + (k - held)) d.lines [] (left_of d carry' v).world) (drop (k - held) words))
        → r ≡ handed carry (fed_all f (going base 0 p w) words)
    went_on o {r} i =
        let g = done f base w (p ++ words) k fits whole (ap (λ (x : Left). said_is_open x.said) (sym e) ∙ o) in
        let b : base + held + (k - held) ≡ base + k = omega (arith, above) in
        let here : carry' ≡ carry = ap (λ (x : Left). x.carry) e ∙ ap (λ (x : Feeding). (handed carry x).carry) g in
        i
        ∙ ap (λ (c : List ℤ). handed c (fed_all f (going (base + held + (k - held)) d.lines [] (left_of d carry' v).world) (drop (k - held) words))) here
        ∙ ap (λ (m : ℕ). handed carry (fed_all f (going m d.lines [] (left_of d carry' v).world) (drop (k - held) words))) b
        ∙ ap (λ (x : Left). handed carry (fed_all f (going (base + k) x.lines [] x.world) (drop (k - held) words))) e
        ∙ ap (λ (x : Feeding). handed carry (fed_all f x (drop (k - held) words))) (sym g)
        ∙ sym (ap (handed carry) (through f base w p words k held n waiting above below))

-- ---- what a call begins with
pub record Runs (c : Fed) (words carry carry' line : List ℤ) (k : ℕ) : Type 0 where
  pub same : carry' ≡ carry
  pub words_are : take k line ≡ take k (take c.held carry ++ words)
  pub above : c.held ≤ k
  pub below : k ≤ c.held + length words
  pub most : k ≤ most_line
  pub whole : (k ≡ 0) ⊎ (look_of (take c.held carry ++ words) ≡ Whole k)

pub begins_run : (c : Fed) (words carry carry' line : List ℤ) (b : Begins) {k : ℕ} → FirstIs c words carry carry' line b → b ≡ Run k → Runs c words carry carry' line k
unfolding FirstIs
begins_run c words carry carry' line b {k} first_is t =
    let i : FirstIs c words carry carry' line (Run k) = subst (FirstIs c words carry carry' line) t first_is in
    record { same = i.0; words_are = i.1; above = i.2; below = i.3; most = i.4; whole = i.5 }

module _ (f : Fixed) (c : Fed) (w : World) (es : w.state ≡ c.state) (words carry carry' line : List ℤ) (there : c.held ≤ length carry) (waiting : waits (look_of (take c.held carry)) ≡ true) where
  pub begins_settled : (b : Begins) {d : Fed} → FirstIs c words carry carry' line b → b ≡ Settled d → left_of d carry' w ≡ handed carry (fed_all f (begun c carry w) words)
  unfolding FirstIs
  begins_settled b {d} first_is t =
      let i : FirstIs c words carry carry' line (Settled d) = subst (FirstIs c words carry carry' line) t first_is in
      put_away f c.base c.held 0 w words carry there waiting i.1
      (i.0 ∙ ap (λ (s : GraphicsState). rest_by c.base c.held 0 s words carry (look_of (take c.held carry ++ words))) (sym es))

  module _ (k : ℕ) (x : Runs c words carry carry' line k) where
    run_held : length (take c.held carry) ≡ c.held
    run_held = length-take-le c.held carry there

    module _ {d : Fed} {carry'' : List ℤ} (v : World) (e : left_of d carry'' v ≡ handed carry' (fed_all f (going (c.base + 0) 0 [] w) (take k line))) where
      as_begun : left_of d carry'' v ≡ handed carry (fed_all f (going c.base 0 [] w) (take k (take c.held carry ++ words)))
      as_begun =
          e ∙ ap (λ (l : List ℤ). handed l (fed_all f (going (c.base + 0) 0 [] w) (take k line))) x.same
          ∙ ap (λ (l : List ℤ). handed carry (fed_all f (going (c.base + 0) 0 [] w) l)) x.words_are
          ∙ ap (λ (n : ℕ). handed carry (fed_all f (going n 0 [] w) (take k (take c.held carry ++ words)))) (add-zero c.base)

      pub run_stops : said_is_open d.said ≡ false → left_of d carry'' v ≡ handed carry (fed_all f (begun c carry w) words)
      run_stops o =
          stopped_there f c.base w (take c.held carry) words carry k c.held run_held waiting x.above x.below x.whole v as_begun o

      pub run_goes : said_is_open d.said ≡ true → {r : Left}
          → r ≡ handed carry'' (fed_all f (going (c.base + c.held + (k - c.held)) d.lines [] (left_of d carry'' v).world) (drop (k - c.held) words))
          → r ≡ handed carry (fed_all f (begun c carry w) words)
      run_goes o i =
          went_on f c.base w (take c.held carry) words carry k c.held run_held waiting x.above x.below x.whole v as_begun o i
