-- `revocation::look::word_at` meets its contract: the queue at place q starts at q * 771.
use Rattle.std.proofs.Common.{◌<◌, arith}
use Rattle.base.specs.Part.{get_d_part}
use Rattle.revocation.proofs.look.word_at.Goals as goal

pub returns : goal.returns
returns c = let inside : c.args.i < 771 = omega arith in rw get_d_part
