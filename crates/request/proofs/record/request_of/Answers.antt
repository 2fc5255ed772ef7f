-- `request::record::request_of` meets its contract: each field is its part of a word.
use Rattle.std.proofs.Common.{arith}
use Rattle.request.specs.Record.{request_of}
use Rattle.request.proofs.record.request_of.Goals as goal

pub returns : goal.returns
unfolding request_of
returns c = (cc, omega arith)
