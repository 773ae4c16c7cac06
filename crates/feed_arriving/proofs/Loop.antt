-- The loop over the input: what it has fed so far is what the blocks so far come to. Assumes nothing.
use mathlib.Core.Bool.{Bool, cond, false, true, true≢false}
use mathlib.Core.List.{List, [], ◌++◌, ◌∷◌}
use mathlib.Core.Path.{◌∙◌, ◌≡◌, ap, ap₂, refl, subst, sym}
use Prim.Native.Nat.{◌+◌, ◌≤◌, ℕ}
use native.Mathlib.Omega.{arith}
use lib.IntN.{ℤ}
use lib.ListN.{length, take}
use lib.Seq.{length-take-le}
use Rattle.rules.specs.declared.Rules.{Rules}
use Rattle.graphics.specs.declared.GraphicsState.{GraphicsState}
use Rattle.line.specs.World.{Fixed, under, world}
use Rattle.feed_carry.specs.Carry.{fresh, said_is_open}
use Rattle.feed_carry.specs.declared.Fed.{Fed}
use Rattle.feed.specs.Feed.{Left, feed_of, left}
use Rattle.feed_blocks.specs.Blocks.{Came, begun_in, words_in}
use Rattle.feed_blocks.specs.Steps.{Kept}
use Rattle.feed_blocks.specs.declared.Next.{Next}
use Rattle.record_layout.specs.declared.Layout.{Layout}
use Rattle.record_read.specs.Format.{held}
use Rattle.record_run.specs.After.{Shelved}
use Rattle.feed_arriving.specs.Arriving.{Arrived, FedShelf, arrive, arrive_all, at_first, end_arrived, fed_shelf, fed_with, given}
use Rattle.feed_arriving.specs.Steps.{arrived_by, pending_by}
use Rattle.feed_arriving.proofs.Counts.{lines_few}

-- ---- blocks
arrive_open : (f : Fixed) (a : Arrived) (block : List ℕ) → said_is_open a.left.said ≡ true
    → arrive f a block ≡ fed_with f (begun_in (a.begun ++ block)) a.lines a.left (words_in (a.begun ++ block))
unfolding arrive
arrive_open f a block o = ap (λ (b : Bool). cond b (fed_with f (begun_in (a.begun ++ block)) a.lines a.left (words_in (a.begun ++ block))) a) o

one_more : (f : Fixed) (a : Arrived) (blocks : List (List ℕ)) (block : List ℕ) → arrive_all f a (blocks ++ (block ∷ [])) ≡ arrive f (arrive_all f a blocks) block
one_more f a [] block = refl
one_more f a (b ∷ blocks) block = one_more f (arrive f a b) blocks block

-- ---- the loop's head
pub record Arriving (f : Fixed) (first : Arrived) (next : Next) (block : List ℕ) (words : List ℤ) (lines : ℕ) (l : Left) : Type 0 where
  pub blocks : List (List ℕ)
  pub begun : List ℕ
  pub is : pending_by f begun lines l (take next.count words) next.more ≡ arrive_all f first blocks
  pub begun_long : next.begun ≡ length begun
  pub begun_are : next.more ≡ true → begun ≡ take next.begun block
  pub still_open : next.more ≡ true → said_is_open l.said ≡ true
  pub few : lines ≤ l.base
  pub kept : Kept next

abbrev pub at_first_lem : ℕ → Next
at_first_lem first = record { begun = 0; count = first; more = true; failed = false }

pub starts : (f g : Fixed) (s : GraphicsState) (first : ℕ) (block : List ℕ) (words carry gx gy : List ℤ) (gflags : List ℕ) (tox toy tx ty : List ℤ) (tflags : List ℕ) {c : Fed}
    → first ≤ 16384 → c ≡ fresh s
    → Arriving f (at_first f carry (held g (take first words) (world s gx gy gflags tox toy tx ty tflags))) (at_first_lem first) block words 0 (left c carry gx gy gflags tox toy tx ty tflags)
unfolding pending_by said_is_open
starts f g s first block words carry gx gy gflags tox toy tx ty tflags {c} h e =
    let goal : Fed → Type 0 = λ (c : Fed). Arriving f (at_first f carry (held g (take first words) (world s gx gy gflags tox toy tx ty tflags))) (at_first_lem first) block words 0 (left c carry gx gy gflags tox toy tx ty tflags) in
    let fresh-goal : goal (fresh s) =
    record {
      blocks = [];
      begun = [];
      is = refl;
      begun_long = refl;
      begun_are = λ t. refl;
      still_open = λ t. refl;
      few = omega arith;
      kept = (omega arith, h);
    } in
    subst goal (sym e) fresh-goal

-- ---- a turn
module _ {f : Fixed} {first : Arrived} {next : Next} {block : List ℕ} {words : List ℤ} {lines : ℕ} {l : Left} (v : Arriving f first next block words lines l)
    -- a piece is still to be fed
    (pending : next.more ≡ true) where
  pub fed_few : (l' : Left) → l' ≡ feed_of f (given l) l.carry (take next.count words) l.world → lines + l'.lines ≤ l'.base
  fed_few l' e =
      let r = feed_of f (given l) l.carry (take next.count words) l.world in
      let few : r.lines + l.base ≤ r.base = lines_few f (given l) l.carry (take next.count words) l.world (v.still_open pending) in
      subst (λ (x : Left). lines + x.lines ≤ x.base) (sym e) (omega (arith, few, v.few))

  fed_is : (l' : Left) → l' ≡ feed_of f (given l) l.carry (take next.count words) l.world
      → arrived_by v.begun (lines + l'.lines) l' ≡ arrive_all f first v.blocks
  unfolding pending_by
  fed_is l' e =
      ap (λ (x : Left). arrived_by v.begun (lines + x.lines) x) e
      ∙ sym (ap (pending_by f v.begun lines l (take next.count words)) pending)
      ∙ v.is

  pub turn : (l' : Left) (wanted : Bool) (next' : Next) (block' : List ℕ) (words' : List ℤ)
      → 3 ≤ length block' → l' ≡ feed_of f (given l) l.carry (take next.count words) l.world → wanted ≡ said_is_open l'.said → Kept next'
      → (next'.more ≡ true → Came (take next.begun block) (take next'.count words') (take next'.begun block')) → (next'.more ≡ false → next'.begun ≡ next.begun)
      → (next'.more ≡ true → wanted ≡ true)
      → Arriving f first next' block' words' (lines + l'.lines) l'
  unfolding pending_by
  turn l' wanted next' block' words' long e o k p q w = by_more next'.more refl
    where
      by_more : (b : Bool) → next'.more ≡ b → Arriving f first next' block' words' (lines + l'.lines) l'
      by_more false m =
          record {
            blocks = v.blocks;
            begun = v.begun;
            is = ap (pending_by f v.begun (lines + l'.lines) l' (take next'.count words')) m ∙ fed_is l' e;
            begun_long = q m ∙ v.begun_long;
            begun_are = λ t. absurd (true≢false (sym t ∙ m));
            still_open = λ t. absurd (true≢false (sym t ∙ m));
            few = fed_few l' e;
            kept = k;
          }
      by_more true m =
          let came = p m in
          let begun' = take next'.begun block' in
          let all : take next.begun block ++ came.block ≡ v.begun ++ came.block = ap (λ (x : List ℕ). x ++ came.block) (sym (v.begun_are pending)) in
          let open' : said_is_open l'.said ≡ true = sym o ∙ w m in
          record {
            blocks = v.blocks ++ (came.block ∷ []);
            begun = begun';
            is =
                ap (pending_by f begun' (lines + l'.lines) l' (take next'.count words')) m
                ∙ ap₂ (λ (x : List ℕ) (y : List ℤ). fed_with f x (lines + l'.lines) l' y) (came.begun_are ∙ ap begun_in all) (came.words_are ∙ ap words_in all)
                ∙ sym (arrive_open f (arrived_by v.begun (lines + l'.lines) l') came.block open')
                ∙ ap (λ (x : Arrived). arrive f x came.block) (fed_is l' e)
                ∙ sym (one_more f first v.blocks came.block);
            begun_long = sym (length-take-le next'.begun block' (omega (arith, k.0, long)));
            begun_are = λ t. refl;
            still_open = λ t. open';
            few = fed_few l' e;
            kept = k;
          }

-- ---- the end
-- where the loop was left, its variables are those of its last turn
pub left_at : {f : Fixed} {first : Arrived} {next next' : Next} {block block' : List ℕ} {words words' : List ℤ} {lines lines' : ℕ} {l l' : Left}
    → next ≡ next' → block ≡ block' → words ≡ words' → lines ≡ lines' → l ≡ l' → Arriving f first next' block' words' lines' l' → Arriving f first next block words lines l
left_at {f} {first} {next} {next'} {block} {block'} {words} {words'} {lines} {lines'} {l} {l'} p q r s t v =
    subst (λ (n : Next). Arriving f first n block words lines l) (sym p)
    (subst (λ (b : List ℕ). Arriving f first next' b words lines l) (sym q)
    (subst (λ (w : List ℤ). Arriving f first next' block' w lines l) (sym r)
    (subst (λ (n : ℕ). Arriving f first next' block' words' n l) (sym s)
    (subst (λ (x : Left). Arriving f first next' block' words' lines' x) (sym t) v))))

pub arrived : {rules : Rules} {most : ℕ} {m : Layout} {g : Fixed} {sheet carry : List ℤ} {next : Next} {block : List ℕ} {words : List ℤ} {lines : ℕ} {l : Left}
    (s : GraphicsState) (gx gy : List ℤ) (gflags : List ℕ) (tox toy tx ty : List ℤ) (tflags out : List ℕ) {x : Shelved}
    (v : Arriving (under rules g) (at_first (under rules g) carry (held g sheet (world s gx gy gflags tox toy tx ty tflags))) next block words lines l)
    → next.more ≡ false → x ≡ end_arrived rules most m g out (arrived_by v.begun lines l)
    → FedShelf rules most m (held g sheet (world s gx gy gflags tox toy tx ty tflags)) carry out x
unfolding fed_shelf pending_by
arrived {rules} {most} {m} {g} {sheet} {carry} {next} {block} {words} {lines} {l} s gx gy gflags tox toy tx ty tflags out {x} v e p =
    record {
      blocks = v.blocks;
      is =
          p
          ∙ ap (end_arrived rules most m g out)
          (sym (ap (pending_by (under rules g) v.begun lines l (take next.count words)) e) ∙ v.is);
    }
