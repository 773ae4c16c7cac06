-- A feed word by word: any cutting of the words is the same feed, and the words of a line, come one by one, wait, end the feed or are done at once.
-- Assumes nothing.
use mathlib.Core.Bool.{false, true, true≢false}
use mathlib.Core.List.{List, [], ◌++◌, ◌∷◌, append_assoc, append-nil}
use mathlib.Core.Path.{◌∙◌, ◌≡◌, ap, refl, sym}
use Prim.Native.Nat.{ℕ, suc, ◌-◌}
use native.Mathlib.Numerals.{add-one}
use native.Mathlib.Omega.{arith}
use borrow.Table.Steps.{cases}
use lib.IntN.{ℤ}
use lib.ListN.{drop, length, length-append, take}
use lib.Seq.{drop-append_seam, take_at}
use Rattle.answer.specs.declared.Refusal.TheVariants.{Line}
use Rattle.line.specs.World.{Fixed, World}
use Rattle.feed_look.proofs.Looks.{grown, is_waits, waited}
use Rattle.feed_look.specs.Look.{look_of}
use Rattle.feed_look.specs.declared.Seen.{Seen}
use Rattle.feed_look.specs.declared.Seen.TheVariants.{Bad, Waits, Whole}
use Rattle.feed_look.specs.declared.Seen.TheVariants.{Long as LongLine}
use Rattle.run_step.specs.Step.{step_of}
use Rattle.feed.specs.Feed.{Feeding, after_line, fed_all, going, on_seen, push_by, stops}
use Rattle.feed_carry.specs.Carry.{said_is_open, waits}
use Rattle.feed_carry.specs.declared.Said.{Said}
use Rattle.feed_carry.specs.declared.Said.TheVariants.{Ended, Long, Open, Refused}

-- the cutting law
pub cut : (f : Fixed) (g : Feeding) (a b : List ℤ) → fed_all f g (a ++ b) ≡ fed_all f (fed_all f g a) b
cut f g [] b = refl
cut f g (x ∷ a) b = cut f (push_by f g x g.said) a b

-- a feed that has ended takes no word
ended_takes : (f : Fixed) (g : Feeding) (x : ℤ) (said : Said) → said_is_open said ≡ false → push_by f g x said ≡ g
unfolding said_is_open push_by
ended_takes f g x Open e = absurd (true≢false e)
ended_takes f g x Ended e = refl
ended_takes f g x Long e = refl
ended_takes f g x (Refused why) e = refl

pub stays : (f : Fixed) (g : Feeding) (l : List ℤ) → said_is_open g.said ≡ false → fed_all f g l ≡ g
stays f g [] e = refl
stays f g (x ∷ l) e = ap (λ (h : Feeding). fed_all f h l) (ended_takes f g x g.said e) ∙ stays f g l e

-- ---- one word more
pub same_waits : (s : Seen) → is_waits s ≡ waits s
unfolding is_waits waits
same_waits Waits = refl
same_waits Bad = refl
same_waits LongLine = refl
same_waits (Whole n) = refl

seen_waits : (f : Fixed) (g : Feeding) (s : Seen) → waits s ≡ true → on_seen f g s ≡ g
unfolding on_seen waits
seen_waits f g Waits e = refl
seen_waits f g Bad e = absurd (true≢false (sym e))
seen_waits f g LongLine e = absurd (true≢false (sym e))
seen_waits f g (Whole n) e = absurd (true≢false (sym e))

module _ (f : Fixed) (base lines : ℕ) (w : World) where
  pushed : (p : List ℤ) (x : ℤ) (l : List ℤ)
      → fed_all f (going base lines p w) (x ∷ l) ≡ fed_all f (on_seen f (going base lines (p ++ (x ∷ [])) w) (look_of (p ++ (x ∷ [])))) l
  unfolding push_by
  pushed p x l = refl

  push_waits : (p : List ℤ) (x : ℤ) (l : List ℤ) → waits (look_of (p ++ (x ∷ []))) ≡ true
      → fed_all f (going base lines p w) (x ∷ l) ≡ fed_all f (going base lines (p ++ (x ∷ [])) w) l
  push_waits p x l e =
      pushed p x l ∙ ap (λ (h : Feeding). fed_all f h l) (seen_waits f (going base lines (p ++ (x ∷ [])) w) (look_of (p ++ (x ∷ []))) e)

-- words that are settled stay so with more
settled : (q l : List ℤ) → waits (look_of q) ≡ false → look_of (q ++ l) ≡ look_of q
settled q l e = grown q l (same_waits (look_of q) ∙ e)

-- words that wait with others behind them waited without them
before : (q l : List ℤ) → waits (look_of (q ++ l)) ≡ true → waits (look_of q) ≡ true
before q l e = cases (waits (look_of q)) (λ t. t) (λ t. absurd (true≢false (sym e ∙ ap waits (settled q l t) ∙ t)))

waiting_all : (f : Fixed) (base lines : ℕ) (w : World) (l p : List ℤ) → waits (look_of (p ++ l)) ≡ true
    → fed_all f (going base lines p w) l ≡ going base lines (p ++ l) w
waiting_all f base lines w [] p e = ap (λ (q : List ℤ). going base lines q w) (sym (append-nil p))
waiting_all f base lines w (x ∷ l) p e =
    let a : (p ++ (x ∷ [])) ++ l ≡ p ++ (x ∷ l) = append_assoc p (x ∷ []) l in
    let t : waits (look_of ((p ++ (x ∷ [])) ++ l)) ≡ true = ap (λ (q : List ℤ). waits (look_of q)) a ∙ e in
    push_waits f base lines w p x l (before (p ++ (x ∷ [])) l t)
    ∙ waiting_all f base lines w l (p ++ (x ∷ [])) t
    ∙ ap (λ (q : List ℤ). going base lines q w) a

-- ---- words that don't all wait: the first that settles what they come to, and those behind it
record Settles (p l : List ℤ) (s : Seen) : Type 0 where
  words : List ℤ
  more : List ℤ
  split : l ≡ words ++ more
  ends : {k : ℕ} → s ≡ Whole k → length (p ++ words) ≡ k
  same : (f : Fixed) (base lines : ℕ) (w : World) → fed_all f (going base lines p w) l ≡ fed_all f (on_seen f (going base lines (p ++ words) w) s) more

one_more : (p : List ℤ) (x : ℤ) → length (p ++ (x ∷ [])) ≡ suc (length p)
one_more p x = length-append p (x ∷ []) ∙ add-one (length p)

settles_now : (p : List ℤ) (x : ℤ) (l : List ℤ) (s : Seen) → waits (look_of p) ≡ true → look_of (p ++ (x ∷ [])) ≡ s → Settles p (x ∷ l) s
settles_now p x l s held e = record {
  words = x ∷ [];
  more = l;
  split = refl;
  ends = λ {k} t. one_more p x ∙ sym (waited p x (same_waits (look_of p) ∙ held) (e ∙ t));
  same = λ f base lines w. pushed f base lines w p x l ∙ ap (λ (z : Seen). fed_all f (on_seen f (going base lines (p ++ (x ∷ [])) w) z) l) e;
}

settles_later : (p : List ℤ) (x : ℤ) (l : List ℤ) (s : Seen) → waits (look_of (p ++ (x ∷ []))) ≡ true → Settles (p ++ (x ∷ [])) l s → Settles p (x ∷ l) s
settles_later p x l s held r =
    let a : (p ++ (x ∷ [])) ++ r.words ≡ p ++ (x ∷ r.words) = append_assoc p (x ∷ []) r.words in
    record {
      words = x ∷ r.words;
      more = r.more;
      split = ap (λ (q : List ℤ). x ∷ q) r.split;
      ends = λ {k} t. ap length (sym a) ∙ r.ends t;
      same = λ f base lines w. push_waits f base lines w p x l held ∙ r.same f base lines w
          ∙ ap (λ (q : List ℤ). fed_all f (on_seen f (going base lines q w) s) r.more) a;
    }

settles : (l p : List ℤ) (s : Seen) → look_of (p ++ l) ≡ s → waits s ≡ false → waits (look_of p) ≡ true → Settles p l s
settles [] p s e over held = absurd (true≢false (sym held ∙ ap (λ (q : List ℤ). waits (look_of q)) (sym (append-nil p)) ∙ ap waits e ∙ over))
settles (x ∷ l) p s e over held =
    let a : look_of ((p ++ (x ∷ [])) ++ l) ≡ s = ap look_of (append_assoc p (x ∷ []) l) ∙ e in
    cases (waits (look_of (p ++ (x ∷ []))))
    (λ t. settles_later p x l s t (settles l (p ++ (x ∷ [])) s a over t))
    (λ t. settles_now p x l s held (sym (settled (p ++ (x ∷ [])) l t) ∙ a))

-- words behind those that wait
module _ (f : Fixed) (base lines : ℕ) (p : List ℤ) (w : World) (l : List ℤ) (waiting : waits (look_of p) ≡ true) where
  pub all_wait : waits (look_of (p ++ l)) ≡ true → fed_all f (going base lines p w) l ≡ going base lines (p ++ l) w
  all_wait e = waiting_all f base lines w l p e

  pub are_bad : look_of (p ++ l) ≡ Bad → fed_all f (going base lines p w) l ≡ stops (Refused Line) (going base lines p w)
  unfolding on_seen waits said_is_open
  are_bad e =
      let r = settles l p Bad e refl waiting in
      r.same f base lines w ∙ stays f (stops (Refused Line) (going base lines p w)) r.more refl

  pub are_long : look_of (p ++ l) ≡ LongLine → fed_all f (going base lines p w) l ≡ stops Long (going base lines p w)
  unfolding on_seen waits said_is_open
  are_long e =
      let r = settles l p LongLine e refl waiting in
      r.same f base lines w ∙ stays f (stops Long (going base lines p w)) r.more refl

  pub are_line : {k : ℕ} → look_of (p ++ l) ≡ Whole k
      → fed_all f (going base lines p w) l
      ≡ fed_all f (after_line (going base lines (take k (p ++ l)) w) (step_of f (take k (p ++ l)) 0 w)) (drop (k - length p) l)
  unfolding on_seen waits
  are_line {k} e =
      let r = settles l p (Whole k) e refl waiting in
      let n : length (p ++ r.words) ≡ k = r.ends refl in
      let line : take k (p ++ l) ≡ p ++ r.words =
      ap (λ (q : List ℤ). take k (p ++ q)) r.split ∙ ap (take k) (sym (append_assoc p r.words r.more)) ∙ take_at (p ++ r.words) r.more k n in
      let m : k - length p ≡ length r.words = omega (arith, n, length-append p r.words) in
      let rest : drop (k - length p) l ≡ r.more =
      ap (λ (i : ℕ). drop i l) m ∙ ap (drop (length r.words)) r.split ∙ drop-append_seam r.words r.more in
      r.same f base lines w
      ∙ ap (λ (q : List ℤ). fed_all f (after_line (going base lines q w) (step_of f q 0 w)) r.more) (sym line)
      ∙ ap (fed_all f (after_line (going base lines (take k (p ++ l)) w) (step_of f (take k (p ++ l)) 0 w))) (sym rest)
