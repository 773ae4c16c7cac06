-- What the functions of a feed come to, over plain values: words that are put away, whole lines that are run, and a piece behind what waits. Assumes
-- nothing.
use Rattle.std.specs.Prelude.{⊤, Result, Ok, Err}
use mathlib.Core.Bool.{Bool, false, true, true≢false}
use mathlib.Core.List.{List, [], ◌++◌}
use mathlib.Core.Logic.{◌⊎◌, inl, inr}
use mathlib.Core.Path.{◌∙◌, ◌≡◌, ap, refl, subst, sym}
use Prim.Native.Nat.{ℕ, ◌+◌, ◌-◌, ◌≤◌}
use native.Mathlib.Nat.{add-zero}
use native.Mathlib.Omega.{arith}
use lib.IntN.{ℤ, pos}
use lib.ListN.{drop, get_or, length, length-append, take, take-append-drop}
use lib.Seq.{drop-append-add, drop-length, get_or-take, length-take-le, take-length}
use Rattle.int.specs.Word.{index_of}
use Rattle.answer.specs.declared.Refusal.{Refusal}
use Rattle.line.specs.World.{Fixed, World}
use Rattle.run_step.specs.Step.{step_of}
use Rattle.run_lines.specs.Onward.{Ran, ran, replay_of}
use Rattle.run_lines.specs.declared.Answer.{Answer}
use Rattle.run_lines.specs.declared.Outcome.{Outcome}
use Rattle.feed_look.specs.Look.{look_of, most_line}
use Rattle.feed_look.specs.Steps.{whole_at, whole_by}
use Rattle.feed_look.specs.declared.Seen.{Seen}
use Rattle.feed_look.specs.declared.Seen.TheVariants.{Bad, Waits, Whole}
use Rattle.feed_look.specs.declared.Seen.TheVariants.{Long as LongLine}
use Rattle.feed_look.proofs.Looks.{no_word, whole_is}
use Rattle.feed_carry.specs.Carry.{said_is_open, waits}
use Rattle.feed_carry.specs.Steps.{Kept, fed, kept, rest_by}
use Rattle.feed_carry.specs.declared.Fed.{Fed}
use Rattle.feed_carry.specs.declared.Said.{Said}
use Rattle.feed_carry.specs.declared.Said.TheVariants.{Long, Open, Refused}
use Rattle.feed_carry.proofs.Joins.{waits_short}
use Rattle.graphics.specs.declared.GraphicsState.{GraphicsState}
use Rattle.feed.specs.Feed.{Feeding, Left, after_call, after_line, fed_all, going, handed, left, stops}
use Rattle.feed.specs.Steps.{Runs, ran_by, refusal_by}
use Rattle.feed.specs.Steps.Runs.{Few, Many}
use Rattle.feed.proofs.Few.{few_run}
use Rattle.feed.proofs.Lines.{Goes, How, counted_run, on_by, refusal}
use Rattle.feed.proofs.Lines.How.{Rests, Stops}
use Rattle.feed.proofs.Words.{all_wait, are_bad, are_line, are_long, cut, stays}

-- what is handed back over a world
abbrev pub left_of : Fed → List ℤ → World → Left
left_of c carry w = left c carry w.gx w.gy w.gflags w.tox w.toy w.tx w.ty w.tflags

-- nothing waits where there are no words
pub none_waits : waits (look_of []) ≡ true
unfolding waits
none_waits = ap waits (no_word 0 _ _ (omega arith))

-- ---- words put away
module _ (f : Fixed) (base held lines : ℕ) (w : World) (words carry : List ℤ) (there : held ≤ length carry) (waiting : waits (look_of (take held carry)) ≡ true) where
  abbrev p : List ℤ
  p = take held carry

  put_waits : look_of (p ++ words) ≡ Waits
      → left_of (fed Open base (held + length words) lines w.state) (p ++ words ++ drop (held + length words) carry) w ≡ handed carry (fed_all f (going base lines p w) words)
  unfolding waits
  put_waits e =
      let n : held + length words ≡ length (p ++ words) = omega (arith, length-append p words, length-take-le held carry there) in
      ap (λ (m : ℕ). left_of (fed Open base m lines w.state) (p ++ words ++ drop m carry) w) n
      ∙ sym (ap (handed carry) (all_wait f base lines p w words waiting (ap waits e)))

  put_by : (s : Seen) → look_of (p ++ words) ≡ s → whole_by s ≡ 0 → {d : Fed} {carry' : List ℤ} → kept d carry' ≡ rest_by base held lines w.state words carry s
      → left_of d carry' w ≡ handed carry (fed_all f (going base lines p w) words)
  unfolding rest_by whole_by
  put_by Waits e z k = ap (λ (x : Kept). left_of x.fed x.carry w) k ∙ put_waits e
  put_by Bad e z k = ap (λ (x : Kept). left_of x.fed x.carry w) k ∙ sym (ap (handed carry) (are_bad f base lines p w words waiting e))
  put_by LongLine e z k = ap (λ (x : Kept). left_of x.fed x.carry w) k ∙ sym (ap (handed carry) (are_long f base lines p w words waiting e))
  put_by (Whole n) e z k = let i = whole_is (length (p ++ words)) _ _ e in absurd (omega (arith, i.is, z))

  pub put_away : whole_by (look_of (p ++ words)) ≡ 0 → {d : Fed} {carry' : List ℤ} → kept d carry' ≡ rest_by base held lines w.state words carry (look_of (p ++ words))
      → left_of d carry' w ≡ handed carry (fed_all f (going base lines p w) words)
  put_away z k = put_by (look_of (p ++ words)) refl z k

-- ---- whole lines, and the words behind them
module _ (f : Fixed) (sheet : List ℤ) (origin before b at : ℕ) (w : World) (h : at ≤ length sheet) (runs : Runs sheet at b) (carry : List ℤ) where
  goes_by : Runs sheet at b → Goes f sheet origin before 0 at w (replay_of f sheet b 0 at w)
  goes_by (Few s m) = few_run f sheet origin before b 0 at w h (omega (arith, s, m)) s
  goes_by (Many end c) = counted_run f sheet origin before b 0 at end w c.lines c.inside c.last

  pub goes : Goes f sheet origin before 0 at w (replay_of f sheet b 0 at w)
  goes = goes_by runs

  module _ (r : Ran) {d : Fed} {carry' : List ℤ} (k : kept d carry' ≡ ran_by origin r.place before r.lines r.world.state sheet carry (refusal sheet r)) where
    off_by : How sheet r → left_of d carry' r.world ≡ handed carry (on_by f sheet origin before r (refusal sheet r))
    unfolding ran_by on_by
    off_by (Stops why e) =
        ap (λ (x : Kept). left_of x.fed x.carry r.world) (k ∙ ap (ran_by origin r.place before r.lines r.world.state sheet carry) e)
        ∙ sym (ap (λ (c : Result ⊤ Refusal). handed carry (on_by f sheet origin before r c)) e)
    off_by (Rests e z) =
        put_away f (origin + r.place) 0 (before + r.lines) r.world (drop r.place sheet) carry (omega arith) none_waits z
        (k ∙ ap (ran_by origin r.place before r.lines r.world.state sheet carry) e)
        ∙ sym (ap (λ (c : Result ⊤ Refusal). handed carry (on_by f sheet origin before r c)) e)

  pub off_is : (r : Ran) {d : Fed} {carry' : List ℤ} → r ≡ replay_of f sheet b 0 at w
      → kept d carry' ≡ ran_by origin r.place before r.lines r.world.state sheet carry (refusal sheet r)
      → left_of d carry' r.world ≡ handed carry (fed_all f (going (origin + at) before [] w) (drop at sheet))
  off_is r e k =
      off_by r k (subst (How sheet) (sym e) goes.how)
      ∙ ap (λ (x : Ran). handed carry (on_by f sheet origin before x (refusal sheet x))) e
      ∙ sym (ap (handed carry) goes.same)
      ∙ ap (λ (n : ℕ). handed carry (fed_all f (going (origin + at) n [] w) (drop at sheet))) (add-zero before)

-- ---- how many lines were finished
rest_lines : (base held lines : ℕ) (s : GraphicsState) (words carry : List ℤ) (seen : Seen) → (rest_by base held lines s words carry seen).fed.lines ≡ lines
unfolding rest_by
rest_lines base held lines s words carry Waits = refl
rest_lines base held lines s words carry Bad = refl
rest_lines base held lines s words carry LongLine = refl
rest_lines base held lines s words carry (Whole n) = refl

ran_lines : (origin place before lines : ℕ) (s : GraphicsState) (sheet carry : List ℤ) (c : Result ⊤ Refusal) → (ran_by origin place before lines s sheet carry c).fed.lines ≡ before + lines
unfolding ran_by
ran_lines origin place before lines s sheet carry (Err why) = refl
ran_lines origin place before lines s sheet carry (Ok tt) = rest_lines (origin + place) 0 (before + lines) s (drop place sheet) carry (look_of (drop place sheet))

pub off_lines : (origin before : ℕ) (r : Ran) (sheet carry : List ℤ) {d : Fed} {carry' : List ℤ}
    → kept d carry' ≡ ran_by origin r.place before r.lines r.world.state sheet carry (refusal sheet r) → d.lines ≡ before + r.lines
off_lines origin before r sheet carry k = ap (λ (x : Kept). x.fed.lines) k ∙ ran_lines origin r.place before r.lines r.world.state sheet carry (refusal sheet r)

-- ---- the words of a run, put away
module _ (origin place before lines : ℕ) (s : GraphicsState) (sheet carry : List ℤ) (a : Answer) {call : Result ⊤ Refusal} {seen : Seen} {whole : ℕ} {part : List ℤ}
    (es : seen ≡ look_of part) (ep : part ≡ drop place sheet) (ew : whole ≡ whole_by seen) (ec : call ≡ refusal_by a whole) where
  said : call ≡ refusal_by a (whole_at sheet place)
  said = ec ∙ ap (refusal_by a) (ew ∙ ap whole_by (es ∙ ap look_of ep))

  pub ran_refused : {why : Refusal} {d : Fed} → call ≡ Err why → d ≡ fed (Refused why) (origin + place) 0 (before + lines) s
      → kept d carry ≡ ran_by origin place before lines s sheet carry (refusal_by a (whole_at sheet place))
  unfolding ran_by
  ran_refused t e = ap (λ (c : Fed). kept c carry) e ∙ sym (ap (ran_by origin place before lines s sheet carry) t) ∙ ap (ran_by origin place before lines s sheet carry) said

  pub ran_on : {d : Fed} {carry' : List ℤ} → call ≡ Ok tt → kept d carry' ≡ rest_by (origin + place) 0 (before + lines) s part carry seen
      → kept d carry' ≡ ran_by origin place before lines s sheet carry (refusal_by a (whole_at sheet place))
  unfolding ran_by
  ran_on t k =
      k ∙ ap (rest_by (origin + place) 0 (before + lines) s part carry) es
      ∙ ap (λ (l : List ℤ). rest_by (origin + place) 0 (before + lines) s l carry (look_of l)) ep
      ∙ sym (ap (ran_by origin place before lines s sheet carry) t) ∙ ap (ran_by origin place before lines s sheet carry) said

-- what waits has room in the carry
pub room_for : {seen : Seen} (part carry : List ℤ) → most_line ≤ length carry → seen ≡ look_of part → seen ≡ Waits → 0 + length part ≤ length carry
room_for part carry h e t = let n = waits_short part (sym e ∙ t) in omega (arith, h, n)
