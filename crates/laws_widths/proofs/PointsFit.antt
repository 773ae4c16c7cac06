-- Points whose coordinates and flags are in their width. Assumes nothing.
use Rattle.line_steps.specs.Loop.{Points}
use Rattle.words.proofs.Widths.{Below, Numbers}

pub record PointsFit (p : Points) : Type 0 where
  pub xs : Numbers p.xs
  pub ys : Numbers p.ys
  pub flags : Below 256 p.flags
