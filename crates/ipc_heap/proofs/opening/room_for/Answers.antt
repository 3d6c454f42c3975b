-- Each has as many places as were asked for.
use Rattle.std.proofs.Common.{arith}
use Rattle.ipc_heap.proofs.Opened.{unused-noted}
use Rattle.ipc_heap.proofs.opening.room_for.Goals as goal

pub returns : goal.returns
returns c = record {
  no_words = c.in_ok-words.ensures.items;
  no_table = c.in_ok-table.ensures.items;
  none_noted = unused-noted c.args.range c.in_ok-uses.uses c.in_ok-uses.ensures;
  words = omega (arith, c.in_ok-words.ensures.exact, c.max-2.ensures);
  words_there = omega (arith, c.in_ok-words.ensures.exact, c.max-2.ensures);
  table = omega (arith, c.in_ok-table.ensures.exact, c.max.ensures, c.div_ceil.ensures);
  table_there = omega (arith, c.in_ok-table.ensures.exact, c.max.ensures, c.div_ceil-2.ensures);
}
