-- `request::line::put_hex` meets its contract: the text that is put begins with the value's digits.
use Rattle.std.proofs.Common.{rules}
use Rattle.request.specs.Laid.{laid_same}
use Rattle.request.specs.LinesLaws.{hex_fits, spelt_hex}
use Rattle.request.proofs.line.put_hex.Goals as goal

ruleset laws = (rules, hex_fits, spelt_hex, laid_same)

pub returns : goal.returns
returns c = search laws
