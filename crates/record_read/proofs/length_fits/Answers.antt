-- `record_read::length_fits` meets its contract. Assumes nothing.
use Rattle.record_read.proofs.length_fits.Goals as goal

pub returns : goal.returns
returns c = cc
