-- What a record can hold. Assumes nothing.
use mathlib.Core.Bool.{true}
use mathlib.Core.Path.{◌≡◌}
use Prim.Native.Nat.{◌≤◌}
use Rattle.rules.specs.declared.Rules.TheVariants.{FreeType}
use Rattle.record_layout.specs.Order.{most_bytes, record_size}
use Rattle.record_read.specs.Format.{Held, layout_for}
use Rattle.line.specs.Sizes.{world_fits}
use Rattle.record_read.proofs.Widths.{HeldInWidth}

-- what a record can hold: lists within document 01's sizes, 24 KiB in all, and each value within its width
pub record Keepable (h : Held) : Type 0 where
  -- a record holds no rules: it is read as under these
  pub rules : h.fixed.rules ≡ FreeType
  pub sizes : world_fits h.fixed h.sheet h.world ≡ true
  pub short : record_size (layout_for h) ≤ most_bytes
  pub widths : HeldInWidth h
