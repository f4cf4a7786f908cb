use Rattle.half_matrix.proofs.Written.{row_is_written}
use Rattle.half_matrix.proofs.laws.law_rows.Goals as goal

pub returns : goal.returns
returns c = row_is_written
