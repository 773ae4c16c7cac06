-- Points in a row, beside `each`: where the row ends, where it is cut in two, where two kinds of step do the same, and what it comes to where the points are all there. Assumes nothing.
use Rattle.std.specs.Prelude.{⊤, Result, Ok, Err}
use Prim.Native.Nat.{ℕ, ◌+◌, ◌-◌, ◌<◌, ◌≤◌, suc, zero}
use mathlib.Core.Bool.{Bool, ◌&&◌, cond, false, true}
use mathlib.Core.List.{List, ◌++◌}
use mathlib.Core.Path.{◌≡◌, ap, refl, sym, ◌∙◌}
use native.Mathlib.Omega.{arith}
use borrow.Author.Tests.{eq-eqb, eqb-true, le-leb, le-ltb, leb-true, lt-ltb, ltb-true, ne_eqb}
use lib.Bits.{bit_or}
use lib.Dec.{eqb, leb, ltb}
use lib.IntN.{ℤ, pos}
use borrow.Rule.Slice.PartMut.{post_of, put_mid}
use lib.ListN.{get_or, length, length-set, set, take}
use lib.Seq.{length-take-le}
use Rattle.std.proofs.lemmas.List.{get_or-append_right, get_or_append_left, set-append_left, set-append_right}
use Rattle.answer.specs.declared.Refusal.TheVariants.{Point}
use Rattle.answer.specs.declared.Refusal.{Refusal}
use Rattle.graphics.proofs.Laws.{and_left, and_right}
use Rattle.int.specs.Word.{add32}
use Rattle.line_steps.specs.Loop.{Ended, Points, each, ended, onward, pass, points, shift_at, shift_unless_idle}
use Rattle.moves.specs.Apply.{apply_of}
use Rattle.moves.specs.Move.{is_idle, moved_at}
use Rattle.moves.specs.declared.Move.{Move}
use Rattle.zone.specs.Zone.{or_at}
use Rattle.line_span.specs.Span.{points_from}
use Rattle.line_span.specs.Steps.{moved_from, moved_run, in_row, at_each, shift_but_at, shift_span, shifted_from, shifted_run, touched_run}

-- ---- one list
module _ {A : Type 0} (f : List A → ℕ → List A) where
  run_ended : (n at : ℕ) (l : List A) → n ≤ 0 → l ≡ at_each f n at l
  unfolding at_each
  run_ended zero at l h = refl
  run_ended (suc n) at l h = absurd (omega arith)

  one_changed : (n at : ℕ) (l : List A) → 0 < n → at_each f (n - 1) (suc at) (f l at) ≡ at_each f n at l
  unfolding at_each
  one_changed zero at l h = absurd (omega arith)
  one_changed (suc n) at l h = let e : suc n - 1 ≡ n = omega arith in rw e

  -- what is left to change from i on
  run_turned : (end i : ℕ) (l : List A) → i < end → {m : List A} → m ≡ f l i → at_each f (end - (i + 1)) (i + 1) m ≡ at_each f (end - i) i l
  run_turned end i l h e =
      let p : end - (i + 1) ≡ end - i - 1 = omega arith in let q : i + 1 ≡ suc i = omega arith in
      rw (p, q) (ap (at_each f (end - i - 1) (suc i)) e ∙ one_changed (end - i) i l (omega arith))

  -- changes that change nothing
  run_still : ((l : List A) (at : ℕ) → f l at ≡ l) → (n at : ℕ) (l : List A) → l ≡ at_each f n at l
  unfolding at_each
  run_still h zero at l = refl
  run_still h (suc n) at l = run_still h n (suc at) l ∙ ap (at_each f n (suc at)) (sym (h l at))

-- a part of a list, put back with one element changed, and one of its elements there
module _ {A : Type 0} (start k i : ℕ) (l part : List A) (within : start ≤ length l) (there : i < length part) where
  there_at : start + i - start ≡ i
  there_at = omega arith

  put_set : (z : A) → put_mid start k l (set part i z) ≡ set (put_mid start k l part) (start + i) z
  put_set z =
      sym
      (set-append_right (take start l) (part ++ post_of start k l) start (start + i) z (length-take-le start l within) (omega arith)
      ∙ ap (λ (j : ℕ). take start l ++ set (part ++ post_of start k l) j z) there_at
      ∙ ap (λ (m : List A). take start l ++ m) (set-append_left part (post_of start k l) i z there))

  put_get : (d : A) → get_or (put_mid start k l part) (start + i) d ≡ get_or part i d
  put_get d =
      get_or-append_right (take start l) (part ++ post_of start k l) start (start + i) d (length-take-le start l within) (omega arith)
      ∙ ap (λ (j : ℕ). get_or (part ++ post_of start k l) j d) there_at
      ∙ get_or_append_left part (post_of start k l) d i there

-- coordinates moved
module _ (by : ℤ) (end i : ℕ) (l : List ℤ) where
  pub moves_ended : end ≤ i → l ≡ moved_run true by i end l
  moves_ended h = run_ended (λ (m : List ℤ) (at : ℕ). moved_at m at by true) (end - i) i l (omega arith)

  pub moves_turned : i < end → {z : ℤ} → z ≡ add32 (get_or l i (pos 0)) by → moved_run true by (i + 1) end (set l i z) ≡ moved_run true by i end l
  moves_turned h e = run_turned (λ (m : List ℤ) (at : ℕ). moved_at m at by true) end i l h (ap (set l i) e)

-- the same, the part alone at hand
module _ (by : ℤ) (start end i : ℕ) (l part : List ℤ) (h : start ≤ end) (g : end ≤ length l) (long : length part ≡ end - start) where
  pub part_moved : i < length part → {z : ℤ} → z ≡ add32 (get_or part i (pos 0)) by
      → moved_run true by (start + (i + 1)) end (put_mid start (end - start) l (set part i z)) ≡ moved_run true by (start + i) end (put_mid start (end - start) l part)
  part_moved there {z} e =
      let within : start ≤ length l = omega (arith, h, g) in
      let next : start + (i + 1) ≡ start + i + 1 = omega arith in
      rw (next, put_set start (end - start) i l part within there z)
      (moves_turned by end (start + i) (put_mid start (end - start) l part) (omega (arith, there, long)) (e ∙ ap (λ (x : ℤ). add32 x by) (sym (put_get start (end - start) i l part within there (pos 0)))))

-- flags touched
module _ (bits end i : ℕ) (l : List ℕ) where
  pub touches_ended : end ≤ i → l ≡ touched_run bits i end l
  touches_ended h = run_ended (λ (m : List ℕ) (at : ℕ). or_at m at bits) (end - i) i l (omega arith)

  pub touches_turned : i < end → {flag : ℕ} → flag ≡ bit_or (get_or l i 0) bits → touched_run bits (i + 1) end (set l i flag) ≡ touched_run bits i end l
  touches_turned h e = run_turned (λ (m : List ℕ) (at : ℕ). or_at m at bits) end i l h (ap (set l i) e)

-- the same, the part alone at hand
module _ (bits start end i : ℕ) (l part : List ℕ) (h : start ≤ end) (g : end ≤ length l) (long : length part ≡ end - start) where
  pub part_touched : i < length part → {flag : ℕ} → flag ≡ bit_or (get_or part i 0) bits
      → touched_run bits (start + (i + 1)) end (put_mid start (end - start) l (set part i flag)) ≡ touched_run bits (start + i) end (put_mid start (end - start) l part)
  part_touched there {flag} e =
      let within : start ≤ length l = omega (arith, h, g) in
      let next : start + (i + 1) ≡ start + i + 1 = omega arith in
      rw (next, put_set start (end - start) i l part within there flag)
      (touches_turned bits end (start + i) (put_mid start (end - start) l part) (omega (arith, there, long)) (e ∙ ap (λ (x : ℕ). bit_or x bits) (sym (put_get start (end - start) i l part within there 0))))

-- coordinates that move, and those that don't
pub all_moved : (by : ℤ) (start end : ℕ) (l : List ℤ) {moves : Bool} {d : ℤ} {r : List ℤ} → moves ≡ true → d ≡ by → r ≡ moved_run true d start end l → r ≡ moved_run moves by start end l
all_moved by start end l e q p =
    p
    ∙ ap (λ (d : ℤ). moved_run true d start end l) q
    ∙ sym (ap (λ (moves : Bool). moved_run moves by start end l) e)

pub not_moved : (by : ℤ) (start end : ℕ) (l : List ℤ) {moves : Bool} → moves ≡ false → l ≡ moved_run moves by start end l
not_moved by start end l e =
    run_still (λ (m : List ℤ) (at : ℕ). moved_at m at by false) (λ m at. refl) (end - start) start l
    ∙ sym (ap (λ (moves : Bool). moved_run moves by start end l) e)

-- one list after another
pub list_after_list : (m : Move) (start end : ℕ) (p : Points) {x y : ℤ} {xs ys : List ℤ} {flags : List ℕ} → x ≡ m.dx → xs ≡ moved_run m.moves_x x start end p.xs
    → y ≡ m.dy → ys ≡ moved_run m.moves_y y start end p.ys → flags ≡ touched_run m.touch start end p.flags → points xs ys flags ≡ shifted_run m start end p
list_after_list m start end p {xs = xs} {ys = ys} a e b f g =
    ap (points xs ys) g
    ∙ ap (λ (l : List ℤ). points xs l (touched_run m.touch start end p.flags)) (f ∙ ap (λ (d : ℤ). moved_run m.moves_y d start end p.ys) b)
    ∙ ap (λ (l : List ℤ). points l (moved_run m.moves_y m.dy start end p.ys) (touched_run m.touch start end p.flags))
    (e ∙ ap (λ (d : ℤ). moved_run m.moves_x d start end p.xs) a)

-- ---- steps of any kind
on_same : {S : Type 0} {a b : S → Ended S} → ((s : S) → a s ≡ b s) → (s : S) (call : Result ⊤ Refusal) → onward a s call ≡ onward b s call
unfolding onward
on_same h s (Ok tt) = h s
on_same h s (Err why) = refl

module _ {S : Type 0} (f : ℕ → S → Ended S) where
  none_left : (n at : ℕ) (s : S) → n ≤ 0 → ended (Ok tt) s ≡ each f n (points_from at n) s
  unfolding each
  none_left zero at s h = refl
  none_left (suc n) at s h = absurd (omega arith)

  -- steps that look at nothing
  all_pass : ((at : ℕ) (s : S) → ended (Ok tt) s ≡ f at s) → (n at : ℕ) (s : S) → ended (Ok tt) s ≡ each f n (points_from at n) s
  unfolding each onward
  all_pass h zero at s = refl
  all_pass h (suc n) at s = all_pass h n (suc at) s ∙ ap (λ (e : Ended S). onward (each f n (points_from (suc at) n)) e.left e.call) (h at s)

  -- steps that do what others do
  all_same : (g : ℕ → S → Ended S) (n at : ℕ) → ((i : ℕ) (s : S) → at ≤ i → i < at + n → f i s ≡ g i s) → (s : S) → each f n (points_from at n) s ≡ each g n (points_from at n) s
  unfolding each
  all_same g zero at h s = refl
  all_same g (suc n) at h s =
      ap (λ (e : Ended S). onward (each f n (points_from (suc at) n)) e.left e.call) (h at s (omega arith) (omega arith))
      ∙ on_same (all_same g n (suc at) (λ i t lo hi. h i t (omega (arith, lo)) (omega (arith, hi)))) (g at s).left (g at s).call

  -- a row is its first part and then the others
  on_cut : (a b at next : ℕ) → ((s : S) → onward (each f b (points_from next b)) (each f a (points_from at a) s).left (each f a (points_from at a) s).call ≡ each f (a + b) (points_from at (a + b)) s)
      → (s : S) (call : Result ⊤ Refusal) → onward (each f b (points_from next b)) (onward (each f a (points_from at a)) s call).left (onward (each f a (points_from at a)) s call).call ≡ onward (each f (a + b) (points_from at (a + b))) s call
  unfolding onward
  on_cut a b at next h s (Ok tt) = h s
  on_cut a b at next h s (Err why) = refl

  cut : (a b at next : ℕ) → next ≡ at + a → (s : S) → onward (each f b (points_from next b)) (each f a (points_from at a) s).left (each f a (points_from at a) s).call ≡ each f (a + b) (points_from at (a + b)) s
  unfolding each onward
  cut zero b at next e s = let p : next ≡ at = omega arith in let q : zero + b ≡ b = omega arith in rw (p, q)
  cut (suc a) b at next e s =
      let q : suc a + b ≡ suc (a + b) = omega arith in
      rw q (on_cut a b (suc at) next (cut a b (suc at) next (omega arith)) (f at s).left (f at s).call)

  module _ (start mid end : ℕ) (h : start ≤ mid) (g : mid ≤ end) (s : S) where
    row_cut : onward (in_row f mid end) (in_row f start mid s).left (in_row f start mid s).call ≡ in_row f start end s
    row_cut = let e : end - start ≡ (mid - start) + (end - mid) = omega arith in rw e (cut (mid - start) (end - mid) start mid (omega arith) s)

  -- a first step
  first_of : (n at : ℕ) (s : S) → 0 < n → onward (each f (n - 1) (points_from (suc at) (n - 1))) (f at s).left (f at s).call ≡ each f n (points_from at n) s
  unfolding each
  first_of zero at s h = absurd (omega arith)
  first_of (suc n) at s h = let e : suc n - 1 ≡ n = omega arith in rw e

  module _ (start end : ℕ) (s : S) (h : start < end) where
    stepped : onward (in_row f (start + 1) end) (f start s).left (f start s).call ≡ in_row f start end s
    stepped = on_same from (f start s).left (f start s).call ∙ first_of (end - start) start s (omega arith)
      where
        from : (t : S) → in_row f (start + 1) end t ≡ each f (end - start - 1) (points_from (suc start) (end - start - 1)) t
        from t = let p : end - (start + 1) ≡ end - start - 1 = omega arith in let q : start + 1 ≡ suc start = omega arith in rw (p, q)

    first_refused : {why : Refusal} → ended (Err why) s ≡ f start s → ended (Err why) s ≡ in_row f start end s
    unfolding onward
    first_refused e = ap (λ (r : Ended S). onward (in_row f (start + 1) end) r.left r.call) e ∙ stepped

    first_passed : ended (Ok tt) s ≡ f start s → in_row f (start + 1) end s ≡ in_row f start end s
    unfolding onward
    first_passed e = ap (λ (r : Ended S). onward (in_row f (start + 1) end) r.left r.call) e ∙ stepped

-- ---- points shifted
length_moved : (l : List ℤ) (at : ℕ) (by : ℤ) (moves : Bool) → length (moved_at l at by moves) ≡ length l
length_moved l at by true = simp length-set
length_moved l at by false = refl

length_run : (by : ℤ) (moves : Bool) (n at : ℕ) (l : List ℤ) → length (moved_from moves by n at l) ≡ length l
unfolding at_each
length_run by moves zero at l = refl
length_run by moves (suc n) at l = length_run by moves n (suc at) (moved_at l at by moves) ∙ length_moved l at by moves

module _ (m : Move) where
  -- ---- one point
  abbrev moved : ℕ → Points → Points
  moved at p = points (moved_at p.xs at m.dx m.moves_x) (moved_at p.ys at m.dy m.moves_y) (or_at p.flags at m.touch)

  there_is : (at : ℕ) (p : Points) → at < length p.xs → ended (Ok tt) (moved at p) ≡ shift_at m at p
  unfolding apply_of
  there_is at p h = rw (lt-ltb at (length p.xs) h)

  out_is : (at : ℕ) (p : Points) → length p.xs ≤ at → ended (Err (Point at)) p ≡ shift_at m at p
  unfolding apply_of
  out_is at p h = rw (le-ltb at (length p.xs) h)

  -- ---- a row
  all_there : (n at : ℕ) (p : Points) → at + n ≤ length p.xs → ended (Ok tt) (shifted_from m n at p) ≡ each (shift_at m) n (points_from at n) p
  unfolding each onward at_each
  all_there zero at p h = refl
  all_there (suc n) at p h =
      all_there n (suc at) (moved at p) (omega (arith, length_moved p.xs at m.dx m.moves_x))
      ∙ ap (λ (e : Ended Points). onward (each (shift_at m) n (points_from (suc at) n)) e.left e.call) (there_is at p (omega arith))

  module _ (start end : ℕ) (p : Points) where
    pub no_points : end ≤ start → ended (Ok tt) p ≡ in_row (shift_at m) start end p
    no_points h = none_left (shift_at m) (end - start) start p (omega arith)

    module _ (h : start < end) where
      pub there_all : end ≤ length p.xs → ended (Ok tt) (shifted_run m start end p) ≡ in_row (shift_at m) start end p
      there_all g = all_there (end - start) start p (omega arith)

      pub out_at_once : length p.xs ≤ start → ended (Err (Point start)) p ≡ in_row (shift_at m) start end p
      out_at_once g = first_refused (shift_at m) start end p h (out_is start p g)

    pub out_later : start < length p.xs → length p.xs < end → ended (Err (Point (length p.xs))) (shifted_run m start (length p.xs) p) ≡ in_row (shift_at m) start end p
    unfolding onward
    out_later g h =
        let size = length p.xs in let q = shifted_run m start size p in
        first_refused (shift_at m) size end q h (out_is size q (omega (arith, length_run m.dx m.moves_x (size - start) start p.xs)))
        ∙ ap (λ (r : Ended Points). onward (in_row (shift_at m) size end) r.left r.call) (all_there (size - start) start p (omega arith))
        ∙ row_cut (shift_at m) start size end (omega arith) (omega arith) p

-- ---- all points but one
pub kept_below : (keeps : Bool) (kept start end : ℕ) → (keeps && leb start kept && ltb kept end) ≡ true → kept < end
kept_below keeps kept start end t = ltb-true kept end (and_right (keeps && leb start kept) (ltb kept end) t)

module _ (m : Move) (keeps : Bool) (kept : ℕ) where
  -- the point is the one that is kept
  kept_is : (at : ℕ) (p : Points) → (keeps && eqb at kept) ≡ true → ended (Ok tt) p ≡ shift_but_at m keeps kept at p
  kept_is at p e = sym (ap (λ (b : Bool). cond b (pass at p) (shift_unless_idle m at p)) e)

  -- it isn't, and the move isn't idle
  shifted_is : (at : ℕ) (p : Points) → is_idle m ≡ false → (keeps && eqb at kept) ≡ false → shift_at m at p ≡ shift_but_at m keeps kept at p
  shifted_is at p busy e = sym (ap (λ (b : Bool). cond b (pass at p) (shift_unless_idle m at p)) e ∙ ap (λ (idle : Bool). cond idle pass (shift_at m) at p) busy)

  -- an idle move passes every point
  pub idle_is : (start end : ℕ) (p : Points) → is_idle m ≡ true → ended (Ok tt) p ≡ shift_span m keeps kept start end p
  unfolding shift_span
  idle_is start end p idle = all_pass (shift_but_at m keeps kept) (λ at q. by at q (keeps && eqb at kept)) (end - start) start p
    where
      by : (at : ℕ) (q : Points) (b : Bool) → ended (Ok tt) q ≡ cond b (pass at q) (shift_unless_idle m at q)
      by at q true = refl
      by at q false = sym (ap (λ (idle : Bool). cond idle pass (shift_at m) at q) idle)

  module _ (busy : is_idle m ≡ false) (start end : ℕ) where
    -- points of which none is kept
    row_is : ((i : ℕ) → start ≤ i → i < end → (keeps && eqb i kept) ≡ false) → (p : Points) → in_row (shift_at m) start end p ≡ in_row (shift_but_at m keeps kept) start end p
    row_is h p = all_same (shift_at m) (shift_but_at m keeps kept) (end - start) start (λ i s lo hi. shifted_is i s busy (h i lo (omega (arith, lo, hi)))) p

    pub none_kept : (p : Points) → (keeps && leb start kept && ltb kept end) ≡ false → in_row (shift_at m) start end p ≡ shift_span m keeps kept start end p
    unfolding shift_span
    none_kept p e = row_is (λ i lo hi. by i lo hi keeps (eqb i kept) refl e) p
      where
        by : (i : ℕ) → start ≤ i → i < end → (k b : Bool) → b ≡ eqb i kept → (k && leb start kept && ltb kept end) ≡ false → (k && b) ≡ false
        by i lo hi false b q t = refl
        by i lo hi true false q t = refl
        by i lo hi true true q t =
            let here : i ≡ kept = eqb-true i kept (sym q) in
            let low : leb start kept ≡ true = le-leb start kept (omega arith) in let high : ltb kept end ≡ true = lt-ltb kept end (omega arith) in
            cc

  module _ (busy : is_idle m ≡ false) (start end : ℕ) (p : Points) (t : (keeps && leb start kept && ltb kept end) ≡ true) {call : Result ⊤ Refusal} {left : Points}
      (before : ended call left ≡ in_row (shift_at m) start kept p) where
    from_start : (keeps && leb start kept) ≡ true
    from_start = and_left (keeps && leb start kept) (ltb kept end) t

    low : start ≤ kept
    low = leb-true start kept (and_right keeps (leb start kept) from_start)

    high : kept < end
    high = kept_below keeps kept start end t

    apart : (i : ℕ) → (i ≡ kept → ⊥) → (keeps && eqb i kept) ≡ false
    apart i h = by keeps
      where
        by : (k : Bool) → (k && eqb i kept) ≡ false
        by true = ne_eqb i kept h
        by false = refl

    cut_out : onward (in_row (shift_at m) (kept + 1) end) left call ≡ shift_span m keeps kept start end p
    unfolding shift_span
    cut_out =
        ap (λ (r : Ended Points). onward (in_row (shift_at m) (kept + 1) end) r.left r.call) (before ∙ row_is busy start kept (λ i lo hi. apart i (λ e. omega (arith, hi, e))) p)
        ∙ on_same after (in_row (shift_but_at m keeps kept) start kept p).left (in_row (shift_but_at m keeps kept) start kept p).call
        ∙ row_cut (shift_but_at m keeps kept) start kept end low (omega (arith, high)) p
      where
        itself : (keeps && eqb kept kept) ≡ true
        itself = ap (λ (b : Bool). b && eqb kept kept) (and_left keeps (leb start kept) from_start) ∙ eq-eqb kept kept refl

        after : (s : Points) → in_row (shift_at m) (kept + 1) end s ≡ in_row (shift_but_at m keeps kept) kept end s
        after s =
            row_is busy (kept + 1) end (λ i lo hi. apart i (λ e. omega (arith, lo, e))) s
            ∙ first_passed (shift_but_at m keeps kept) kept end s high (kept_is kept s itself)

    -- a point before the one that is kept was refused
    pub cut_refused : {why : Refusal} → call ≡ Err why → ended (Err why) left ≡ shift_span m keeps kept start end p
    unfolding onward
    cut_refused e = ap (onward (in_row (shift_at m) (kept + 1) end) left) (sym e) ∙ cut_out

    pub cut_done : call ≡ Ok tt → {r : Ended Points} → r ≡ in_row (shift_at m) (kept + 1) end left → r ≡ shift_span m keeps kept start end p
    unfolding onward
    cut_done e q = q ∙ ap (onward (in_row (shift_at m) (kept + 1) end) left) (sym e) ∙ cut_out
