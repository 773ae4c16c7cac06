-- Lists of which every word has a property, as that it is within its width, and what is read of such a list, put into it or made of it: by
-- induction on the list. Assumes nothing.
use Rattle.std.proofs.Common.{ℕ, zero, suc, ◌<◌, List, [], ◌∷◌, ◌++◌, map, get_or, take, drop, set, ℤ, w32, SFits}

pub data Every {A : Type 0} (P : A → Type 0) : List A → Type 0 where
  no_word : Every P []
  one_word : {w : A} {ws : List A} → P w → Every P ws → Every P (w ∷ ws)

-- every number is one of 32 bits
abbrev pub Numbers : List ℤ → Type 0
Numbers zs = Every (SFits w32) zs

-- every word is below a number: a flag below 256, a contour's end below 65,536
abbrev pub Below : ℕ → List ℕ → Type 0
Below most ws = Every (λ (w : ℕ). w < most) ws

module _ {A : Type 0} {P : A → Type 0} where
  pub every_at : {ws : List A} {other : A} → Every P ws → P other → (k : ℕ) → P (get_or ws k other)
  every_at no_word p k = p
  every_at (one_word h f) p zero = h
  every_at (one_word h f) p (suc k) = every_at f p k

  pub every_set : {ws : List A} {w : A} → Every P ws → P w → (k : ℕ) → Every P (set ws k w)
  every_set no_word p k = no_word
  every_set (one_word h f) p zero = one_word p f
  every_set (one_word h f) p (suc k) = one_word h (every_set f p k)

  pub every_take : {ws : List A} → Every P ws → (n : ℕ) → Every P (take n ws)
  every_take f zero = no_word
  every_take no_word (suc n) = no_word
  every_take (one_word {w = w} {ws = ws} h f) (suc n) = one_word h (every_take {ws = ws} f n)

  pub every_drop : {ws : List A} → Every P ws → (n : ℕ) → Every P (drop n ws)
  every_drop f zero = f
  every_drop no_word (suc n) = no_word
  every_drop (one_word {w = w} {ws = ws} h f) (suc n) = every_drop {ws = ws} f n

  pub every_join : {ws vs : List A} → Every P ws → Every P vs → Every P (ws ++ vs)
  every_join no_word g = g
  every_join (one_word h f) g = one_word h (every_join f g)

-- each word put through a function, which may rest on what is known of it
pub every_map : {A B : Type 0} {P : A → Type 0} {Q : B → Type 0} {ws : List A} (g : A → B) → ((w : A) → P w → Q (g w)) → Every P ws → Every Q (map g ws)
every_map g k no_word = no_word
every_map g k (one_word {w} h f) = one_word (k w h) (every_map g k f)
