use Rattle.std.proofs.Common.{arith}
use Rattle.std.proofs.lemmas.List.{take_more_set}
use Rattle.sheets.proofs.Pages.{count_written}
use Rattle.sheets.proofs.sheet.Sheet.write.Goals as goal

pub returns : goal.returns
returns c =
    take_more_set c.args.self.now.lines c.args.self.now.used c.args.line
    (omega (arith, count_written c.args.self.now, c.args.self.now.whole))
