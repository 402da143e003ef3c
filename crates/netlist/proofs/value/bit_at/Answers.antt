use Rattle.std.proofs.Common.{sym, arith}
use Rattle.netlist.proofs.Rules.{past_table}
use Rattle.netlist.proofs.value.bit_at.Goals as goal

pub returns-else-row-lt8 : goal.returns-else-row-lt8
returns-else-row-lt8 c = sym (past_table c.args.table c.args.row (omega arith) c.if-row-lt8.false)
