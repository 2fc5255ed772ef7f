-- `request::line::put_decimal` meets its contract: the text that is put begins with the number's digits.
use Rattle.std.proofs.Common.{rules}
use Rattle.request.specs.Laid.{laid_same}
use Rattle.request.specs.LinesLaws.{decimal_fits, spelt_decimal}
use Rattle.request.proofs.line.put_decimal.Goals as goal

ruleset laws = (rules, decimal_fits, spelt_decimal, laid_same)

pub put_both-requires : goal.put_both-requires
put_both-requires c = search laws

pub returns : goal.returns
returns c = search laws
