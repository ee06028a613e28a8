use Rattle.ox_wire.proofs.Pieced.{piece_is, piece_from}
use Rattle.ox_wire.proofs.law.law_piece.Goals as goal

pub returns : goal.returns
returns c = λ piece. (piece_is piece, piece_from piece)
