-- What the words of a feed leave as it was: what waits is the beginning of a line, every list is as long as it was, a usable state stays usable, and
-- the words that wait are the last that came. And that the lines finished before don't matter. Assumes nothing.
use Rattle.std.specs.Prelude.{⊤, Result, Ok, Err}
use Rattle.answer.specs.declared.Refusal.{Refusal}
use mathlib.Core.Bool.{Bool, false, true, true≢false}
use mathlib.Core.List.{List, [], ◌++◌, ◌∷◌, append_assoc, append-nil}
use mathlib.Core.Path.{◌∙◌, ◌≡◌, ap, refl, subst, sym}
use Prim.Native.Nat.{ℕ, suc, ◌+◌, ◌<◌, ◌≤◌}
use native.Mathlib.Nat.{add-zero}
use native.Mathlib.Omega.{arith}
use lib.IntN.{ℤ}
use lib.ListN.{length, length-append}
use Rattle.feed.specs.Feed.{Feeding, after_call, fed_all, going, on_seen, push_by}
use Rattle.feed_carry.specs.Carry.{said_is_open, waits}
use Rattle.feed_carry.specs.declared.Said.{Said}
use Rattle.feed_carry.specs.declared.Said.TheVariants.{Ended, Long, Open, Refused}
use Rattle.feed.proofs.Words.{same_waits}
use Rattle.feed_look.proofs.Looks.{few, no_word}
use Rattle.feed_look.specs.Look.{look_of, most_line}
use Rattle.feed_look.specs.declared.Seen.{Seen}
use Rattle.feed_look.specs.declared.Seen.TheVariants.{Bad, Waits, Whole}
use Rattle.feed_look.specs.declared.Seen.TheVariants.{Long as LongLine}
use Rattle.laws_run.proofs.Left.{Left}
use Rattle.laws_run.proofs.Keeps.{left_by_both, step_keeps}
use Rattle.line.specs.World.{Alike, Fixed, World}
use Rattle.run_lines.proofs.Loop.{still_alike}
use Rattle.run_step.specs.Step.{step_of}

-- ---- words that wait
pub nothing_waits : waits (look_of []) ≡ true
unfolding waits
nothing_waits = ap waits (no_word 0 _ _ (omega arith))

pub few_wait : (l : List ℤ) → waits (look_of l) ≡ true → length l < most_line
few_wait l e = few l (same_waits (look_of l) ∙ e)

-- ---- the end of a list
pub record EndOf (l words : List ℤ) : Type 0 where
  pub front : List ℤ
  pub is : words ≡ front ++ l

pub all_of : (l : List ℤ) → EndOf l l
all_of l = record { front = []; is = refl }

pub none_of : (words : List ℤ) → EndOf [] words
none_of words = record { front = words; is = sym (append-nil words) }

longer : {l words : List ℤ} (more : List ℤ) → EndOf l words → EndOf (l ++ more) (words ++ more)
longer {l} more e = record { front = e.front; is = ap (λ (z : List ℤ). z ++ more) e.is ∙ append_assoc e.front l more }

ends_by : {k l words : List ℤ} → EndOf k l → EndOf l words → EndOf k words
ends_by {k} a b = record { front = b.front ++ a.front; is = b.is ∙ ap (λ (z : List ℤ). b.front ++ z) a.is ∙ sym (append_assoc b.front a.front k) }

-- ---- a feed from a world on, of so many words
pub record Sane (w : World) (n : ℕ) (g : Feeding) : Type 0 where
  pub waiting : waits (look_of g.pending) ≡ true
  pub kept : Left w g.world
  pub place : said_is_open g.said ≡ true → g.base + length g.pending ≡ n
  pub most : g.base + length g.pending ≤ n
  pub idle : said_is_open g.said ≡ false → g.pending ≡ []

-- after words that came behind those that waited
pub record Pushed (w : World) (n : ℕ) (words : List ℤ) (g : Feeding) : Type 0 where
  pub sane : Sane w n g
  pub last : EndOf g.pending words

pub not_open : {A : Type 0} (said : Said) → said_is_open said ≡ false → said_is_open said ≡ true → A
not_open said e o = absurd (true≢false (sym o ∙ e))

pub is_open : {A : Type 0} (said : Said) → said_is_open said ≡ true → said_is_open said ≡ false → A
is_open said o e = not_open said e o

module _ (f : Fixed) (w : World) (alike : Alike f w) where
  stopped : (n : ℕ) (words : List ℤ) (said : Said) (base lines : ℕ) (v : World) → said_is_open said ≡ false → base + length words ≡ n → Left w v
      → Pushed w n words (record { said = said; base = base; lines = lines; pending = []; world = v })
  stopped n words said base lines v e p k =
      record { sane = record { waiting = nothing_waits; kept = k; place = not_open said e; most = omega (arith, p); idle = λ o. refl }; last = none_of words }

  by_call : (n base lines : ℕ) (words : List ℤ) (u v : World) (call : Result ⊤ Refusal) → base + length words ≡ n → Left w v
      → Pushed w n words (after_call (going base lines words u) v call)
  unfolding after_call said_is_open
  by_call n base lines words u v (Ok tt) p k =
      record { sane = record { waiting = nothing_waits; kept = k; place = λ o. add-zero (base + length words) ∙ p; most = omega (arith, p); idle = λ o. refl }; last = none_of words }
  by_call n base lines words u v (Err why) p k = stopped n words (Refused why) base lines v refl p k

  by_seen : (n base lines : ℕ) (words : List ℤ) (u : World) (s : Seen) → look_of words ≡ s → base + length words ≡ n → Left w u
      → Pushed w n words (on_seen f (going base lines words u) s)
  unfolding on_seen said_is_open waits
  by_seen n base lines words u Waits e p k =
      record { sane = record { waiting = ap waits e; kept = k; place = λ o. p; most = omega (arith, p); idle = is_open Open refl }; last = all_of words }
  by_seen n base lines words u Bad e p k = stopped n words _ base lines u refl p k
  by_seen n base lines words u LongLine e p k = stopped n words Long base lines u refl p k
  by_seen n base lines words u (Whole m) e p k =
      let r = step_of f words 0 u in
      by_call n base lines words u r.world r.call p (left_by_both k (step_keeps f words 0 u (still_alike f w u k.lengths alike)))

  over : (n : ℕ) (words : List ℤ) (g : Feeding) → said_is_open g.said ≡ false → Sane w n g → Pushed w (suc n) words g
  over n words g e s =
      record {
        sane = record { waiting = s.waiting; kept = s.kept; place = not_open g.said e; most = omega (arith, s.most); idle = s.idle };
        last = record { front = words; is = sym (append-nil words) ∙ ap (λ (z : List ℤ). words ++ z) (sym (s.idle e)) };
      }

  one_push : (n : ℕ) (g : Feeding) (x : ℤ) (said : Said) → g.said ≡ said → Sane w n g → Pushed w (suc n) (g.pending ++ (x ∷ [])) (push_by f g x said)
  unfolding push_by said_is_open
  one_push n g x Open e s =
      let words = g.pending ++ (x ∷ []) in
      let p : g.base + length words ≡ suc n = omega (arith, length-append g.pending (x ∷ []), s.place (ap said_is_open e)) in
      by_seen (suc n) g.base g.lines words g.world (look_of words) refl p s.kept
  one_push n g x Ended e s = over n (g.pending ++ (x ∷ [])) g (ap said_is_open e) s
  one_push n g x Long e s = over n (g.pending ++ (x ∷ [])) g (ap said_is_open e) s
  one_push n g x (Refused why) e s = over n (g.pending ++ (x ∷ [])) g (ap said_is_open e) s

  pub pushes : (n : ℕ) (g : Feeding) (l : List ℤ) → Sane w n g → Pushed w (n + length l) (g.pending ++ l) (fed_all f g l)
  pushes n g [] s =
      let p : n ≡ n + 0 = omega arith in
      record {
        sane = subst (λ (m : ℕ). Sane w m g) p s;
        last = subst (EndOf g.pending) (sym (append-nil g.pending)) (all_of g.pending);
      }
  pushes n g (x ∷ l) s =
      let h = push_by f g x g.said in
      let one = one_push n g x g.said refl s in
      let more = pushes (suc n) h l one.sane in
      let p : suc n + length l ≡ n + suc (length l) = omega arith in
      record {
        sane = subst (λ (m : ℕ). Sane w m (fed_all f h l)) p more.sane;
        last = subst (EndOf (fed_all f h l).pending) (append_assoc g.pending (x ∷ []) l) (ends_by more.last (longer l one.last));
      }

-- ---- only the last call ends a feed
unfoldable pub is_ended : Said → Bool
is_ended Open = false
is_ended Ended = true
is_ended Long = false
is_ended (Refused why) = false

call_goes_on : (base lines : ℕ) (words : List ℤ) (u v : World) (call : Result ⊤ Refusal) → is_ended (after_call (going base lines words u) v call).said ≡ false
unfolding after_call is_ended
call_goes_on base lines words u v (Ok tt) = refl
call_goes_on base lines words u v (Err why) = refl

seen_goes_on : (f : Fixed) (base lines : ℕ) (words : List ℤ) (u : World) (s : Seen) → is_ended (on_seen f (going base lines words u) s).said ≡ false
unfolding on_seen is_ended
seen_goes_on f base lines words u Waits = refl
seen_goes_on f base lines words u Bad = refl
seen_goes_on f base lines words u LongLine = refl
seen_goes_on f base lines words u (Whole m) = call_goes_on base lines words u (step_of f words 0 u).world (step_of f words 0 u).call

push_goes_on : (f : Fixed) (g : Feeding) (x : ℤ) (said : Said) → g.said ≡ said → is_ended said ≡ false → is_ended (push_by f g x said).said ≡ false
unfolding push_by is_ended
push_goes_on f g x Open e h = let words = g.pending ++ (x ∷ []) in seen_goes_on f g.base g.lines words g.world (look_of words)
push_goes_on f g x Ended e h = absurd (true≢false h)
push_goes_on f g x Long e h = ap is_ended e
push_goes_on f g x (Refused why) e h = ap is_ended e

pub goes_on : (f : Fixed) (g : Feeding) (l : List ℤ) → is_ended g.said ≡ false → is_ended (fed_all f g l).said ≡ false
goes_on f g [] h = h
goes_on f g (x ∷ l) h = goes_on f (push_by f g x g.said) l (push_goes_on f g x g.said refl h)

-- ---- the lines finished before don't matter
abbrev pub unnumbered : Feeding → Feeding
unnumbered g = record { said = g.said; base = g.base; lines = 0; pending = g.pending; world = g.world }

call_unnumbered : (base lines : ℕ) (words : List ℤ) (u v : World) (call : Result ⊤ Refusal)
    → unnumbered (after_call (going base lines words u) v call) ≡ unnumbered (after_call (going base 0 words u) v call)
unfolding after_call
call_unnumbered base lines words u v (Ok tt) = refl
call_unnumbered base lines words u v (Err why) = refl

seen_unnumbered : (f : Fixed) (base lines : ℕ) (words : List ℤ) (u : World) (s : Seen)
    → unnumbered (on_seen f (going base lines words u) s) ≡ unnumbered (on_seen f (going base 0 words u) s)
unfolding on_seen
seen_unnumbered f base lines words u Waits = refl
seen_unnumbered f base lines words u Bad = refl
seen_unnumbered f base lines words u LongLine = refl
seen_unnumbered f base lines words u (Whole m) = call_unnumbered base lines words u (step_of f words 0 u).world (step_of f words 0 u).call

push_unnumbered : (f : Fixed) (g : Feeding) (x : ℤ) (said : Said) → unnumbered (push_by f g x said) ≡ unnumbered (push_by f (unnumbered g) x said)
unfolding push_by
push_unnumbered f g x Open = let words = g.pending ++ (x ∷ []) in seen_unnumbered f g.base g.lines words g.world (look_of words)
push_unnumbered f g x Ended = refl
push_unnumbered f g x Long = refl
push_unnumbered f g x (Refused why) = refl

pub fed_unnumbered : (f : Fixed) (g : Feeding) (l : List ℤ) → unnumbered (fed_all f g l) ≡ unnumbered (fed_all f (unnumbered g) l)
fed_unnumbered f g [] = refl
fed_unnumbered f g (x ∷ l) =
    fed_unnumbered f (push_by f g x g.said) l
    ∙ ap (λ (h : Feeding). unnumbered (fed_all f h l)) (push_unnumbered f g x g.said)
    ∙ sym (fed_unnumbered f (push_by f (unnumbered g) x g.said) l)
