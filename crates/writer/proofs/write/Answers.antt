-- `writer::write` meets its contract. Assumes nothing.
use Rattle.writer.proofs.AnswerLaws.{short_table, not_sound, is_written}
use Rattle.writer.proofs.write.Goals as goal

pub returns-then-table-lt-SIZE : goal.returns-then-table-lt-SIZE
returns-then-table-lt-SIZE c = short_table c.args.table.now c.args.bytes.now c.args.buffer.now c.if-table-lt-SIZE.true

pub returns-then-not-is_sound : goal.returns-then-not-is_sound
returns-then-not-is_sound c = not_sound c.args.table.now c.args.bytes.now c.args.buffer.now c.if-table-lt-SIZE.false _ c.is_sound.ensures (c.if-not-is_sound.true)

pub returns : goal.returns
returns c = is_written c.args.table.now c.args.bytes.now c.args.buffer.now c.if-table-lt-SIZE.false _ c.is_sound.ensures (c.if-not-is_sound.false) c.write_sound.result c.write_sound.new.buffer c.write_sound.ensures
