-- A state's parts are equal where their fields are, and two tests where each is. Assumes nothing.
use mathlib.Core.Path.{◌≡◌}
use mathlib.Core.Bool.{Bool, ◌&&◌}
use Prim.Native.Nat.{ℕ}
use lib.IntN.{ℤ}
use Rattle.round.specs.declared.RoundMode.{RoundMode}
use Rattle.round.specs.declared.RoundState.{RoundState}
use Rattle.graphics.specs.declared.Facts.{Facts}
use Rattle.graphics.specs.declared.GraphicsState.{GraphicsState}
use Rattle.graphics.specs.declared.Measures.{Measures}
use Rattle.graphics.specs.declared.References.{References}
use Rattle.graphics.specs.declared.Tallies.{Tallies}
use Rattle.graphics.specs.declared.Vector.{Vector}
use Rattle.graphics.specs.declared.Vectors.{Vectors}
use Rattle.graphics.specs.declared.ZonePointer.{ZonePointer}
use Rattle.graphics.specs.declared.ZonePointers.{ZonePointers}

abbrev vector2 : ℤ → ℤ → Vector
vector2 x y = record { x = x; y = y }

pub same_vector : {x u y v : ℤ} → x ≡ u → y ≡ v → vector2 x y ≡ vector2 u v
same_vector e f = cc

abbrev vectors3 : Vector → Vector → Vector → Vectors
vectors3 a b c = record { projection = a; dual = b; freedom = c }

pub same_vectors : {a u b v c w : Vector} → a ≡ u → b ≡ v → c ≡ w → vectors3 a b c ≡ vectors3 u v w
same_vectors e f g = cc

abbrev round4 : RoundMode → ℤ → ℤ → ℤ → RoundState
round4 m a b c = record { mode = m; threshold = a; phase = b; period = c }

pub same_round : {m n : RoundMode} {a u b v c w : ℤ} → m ≡ n → a ≡ u → b ≡ v → c ≡ w → round4 m a b c ≡ round4 n u v w
same_round d e f g = cc

abbrev references3 : ℕ → ℕ → ℕ → References
references3 a b c = record { rp0 = a; rp1 = b; rp2 = c }

pub same_references : {a u b v c w : ℕ} → a ≡ u → b ≡ v → c ≡ w → references3 a b c ≡ references3 u v w
same_references e f g = cc

abbrev pointers3 : ZonePointer → ZonePointer → ZonePointer → ZonePointers
pointers3 a b c = record { zp0 = a; zp1 = b; zp2 = c }

pub same_pointers : {a u b v c w : ZonePointer} → a ≡ u → b ≡ v → c ≡ w → pointers3 a b c ≡ pointers3 u v w
same_pointers e f g = cc

abbrev facts5 : Bool → Bool → Bool → Bool → Bool → Facts
facts5 a b c d e = record { backward_compatibility = a; pedantic = b; native_clear_type_x = c; did_iup_x = d; did_iup_y = e }

pub same_facts : {a u b v c w d x e y : Bool} → a ≡ u → b ≡ v → c ≡ w → d ≡ x → e ≡ y → facts5 a b c d e ≡ facts5 u v w x y
same_facts i j k l m = cc

abbrev measures6 : ℤ → ℤ → ℤ → ℤ → Bool → ℤ → Measures
measures6 a b c d e f =
    record { cut_in = a; minimum_distance = b; single_width = c; single_width_cut_in = d; auto_flip = e; scale = f }

pub same_measures :
    {a u b v c w d x : ℤ} {e y : Bool} {f z : ℤ}
    → a ≡ u → b ≡ v → c ≡ w → d ≡ x → e ≡ y → f ≡ z → measures6 a b c d e f ≡ measures6 u v w x y z
same_measures i j k l m n = cc

abbrev tallies3 : ℕ → ℤ → ℕ → Tallies
tallies3 a b c = record { wrapped_roundings = a; last_pushed = b; pushes = c }

pub same_tallies : {a u : ℕ} {b v : ℤ} {c w : ℕ} → a ≡ u → b ≡ v → c ≡ w → tallies3 a b c ≡ tallies3 u v w
same_tallies e f g = cc

abbrev state8 : Vectors → RoundState → References → ℕ → ZonePointers → Measures → Facts → Tallies → GraphicsState
state8 v r p n z m f t =
    record { vectors = v; round = r; references = p; loop_counter = n; pointers = z; measures = m; facts = f; tallies = t }

pub same_state :
    {v v' : Vectors} {r r' : RoundState} {p p' : References} {n n' : ℕ} {z z' : ZonePointers} {m m' : Measures} {f f' : Facts} {t t' : Tallies}
    → v ≡ v' → r ≡ r' → p ≡ p' → n ≡ n' → z ≡ z' → m ≡ m' → f ≡ f' → t ≡ t' → state8 v r p n z m f t ≡ state8 v' r' p' n' z' m' f' t'
same_state d e g h i j k l = cc

pub same_and : {a u b v : Bool} → a ≡ u → b ≡ v → a && b ≡ u && v
same_and e f = cc
