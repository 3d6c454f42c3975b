-- The line of a listing, from the columns of the code.
use Rattle.std.specs.Prelude.{ℕ, List}
use Rattle.ipc_engine.specs.declared.listing.Row.TheVariants.{Msg, Sem, Pmq, Psm, Shm, Seg}
use Rattle.ipc_script.specs.declared.listing.MsgLine.{MsgLine}
use Rattle.ipc_script.specs.declared.listing.PmqLine.{PmqLine}
use Rattle.ipc_script.specs.declared.listing.PsmLine.{PsmLine}
use Rattle.ipc_script.specs.declared.listing.SegLine.{SegLine}
use Rattle.ipc_script.specs.declared.listing.SemLine.{SemLine}
use Rattle.ipc_script.specs.declared.listing.ShmLine.{ShmLine}
use Rattle.ipc_script.specs.Dump.{row_line}

abbrev pub msg_text : MsgLine → List ℕ
msg_text line =
    row_line (Msg (record { 0 = line.id.0 }) line.key.0 line.mode.0 line.uid.0 line.gid.0 line.bytes.0 line.messages.0)

abbrev pub sem_text : SemLine → List ℕ
sem_text line = row_line (Sem (record { 0 = line.id.0 }) line.key.0 line.mode.0 line.uid.0 line.gid.0 line.nsems.0)

abbrev pub pmq_text : PmqLine → List ℕ
pmq_text line =
    row_line (Pmq line.mode.0 line.uid.0 line.gid.0 line.messages.0 line.maxmsg.0 line.msgsize.0 line.name.0.now)

abbrev pub psm_text : PsmLine → List ℕ
psm_text line = row_line (Psm line.mode.0 line.uid.0 line.gid.0 line.value.0 line.name.0.now)

abbrev pub shm_text : ShmLine → List ℕ
shm_text line = row_line (Shm line.mode.0 line.uid.0 line.gid.0 line.length.0 line.name.0.now)

abbrev pub seg_text : SegLine → List ℕ
seg_text line =
    row_line
    (Seg (record { 0 = line.id.0 }) line.key.0 line.mode.0 line.uid.0 line.gid.0 line.length.0 line.attachments.0)
