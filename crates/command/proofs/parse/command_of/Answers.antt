-- `command_of` meets its contract: a line that is not too long says what its fields say.
-- Assumes nothing.
use Rattle.std.proofs.Common.{sym, ◌∙◌}
use Rattle.command.proofs.LineFields.{line_long, line_short}
use Rattle.command.proofs.parse.command_of.Goals as goal

pub returns-then-line-gt-LINE : goal.returns-then-line-gt-LINE
returns-then-line-gt-LINE c = sym (line_long c.args.line.now c.if-line-gt-LINE.true)

pub returns : goal.returns
returns c = c.unwrap_or.ensures ∙ c.read.ensures ∙ sym (line_short c.args.line.now c.if-line-gt-LINE.false)
