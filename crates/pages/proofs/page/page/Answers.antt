-- Where no test fails, the order and the room are what `put_first_lines` asks for, and `written` says that its lines are the page.
use Rattle.std.proofs.Common.{rules}
use Rattle.pages.proofs.PageLines.{refused, able, written}
use Rattle.pages.proofs.page.page.Goals as goal

pub returns-in_err-order : goal.returns-in_err-order
returns-in_err-order c = search (refused, rules)

pub put_first_lines-requires : goal.put_first_lines-requires
put_first_lines-requires c = able _ _ _ _ _ c.in_ok-order.ensures

pub returns : goal.returns
returns c = search (written, rules)
