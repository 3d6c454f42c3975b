-- What the program does with one piece of the bytes of a line.
use Rattle.std.specs.Prelude.{◌≡◌, ◌⊎◌, ◌<◌, ℕ, Bool, true, List, [], length, take, Option}
use Rattle.ipc_limits.specs.declared.limits.Limits.{Limits}
use Rattle.ipc_disk.specs.Medium.{Medium}
use Rattle.ipc_store.specs.Histories.{Takes}
use Rattle.ipc_store.specs.View.{StoreView}
use Rattle.ipc_hub.specs.View.{StoredHub}
use Rattle.ipc_script.specs.declared.report.Opened.{Opened}
use Rattle.ipc_script.specs.declared.script.Sender.{Sender}
use Rattle.ipc_script.specs.Halting.{IsBegun}
use Rattle.ipc_script.specs.Line.PlainLine.{Data}
use Rattle.ipc_script.specs.Script.{Progress, Run, is_open, fed, WritesPart}
use Rattle.ipc_script.specs.Relations.Lasts.{LastsAs}
use Rattle.ipc_script.specs.Relations.Matches.{MatchesFailed, ProgressMatches}

-- so many of these bytes are fed
abbrev pub piece_fed : Limits → Run → Sender → List ℕ → ℕ → List Bool → Progress
piece_fed limits r sender bytes taken refused =
    fed limits r sender.moment.0 sender.conn (take taken bytes) refused

-- some of these bytes are fed to a connection that is open, and the store takes the events of that
pub record TakesPiece {D : Type 0} (medium : D → Medium) (limits : Limits) (r : Run) (sender : Sender)
    (bytes : List ℕ) (taken : ℕ) (old new : StoreView D) : Type 0 where
  pub refused : List Bool
  pub takes_some : 0 < length bytes → 0 < taken
  pub open_before : is_open r sender.conn ≡ true
  pub lasts : LastsAs medium r.hub (piece_fed limits r sender bytes taken refused).run.hub old new

-- and what they let out is written; the connection stays open
pub record SimulatesPiece {D : Type 0} (medium : D → Medium) (limits : Limits) (r : Run) (sender : Sender)
    (bytes : List ℕ) (taken : ℕ) (old : StoreView D) (hub : StoredHub D) (opened : List Opened)
    (before after : Option (List ℕ)) : Type 0 where
  pub piece : TakesPiece medium limits r sender bytes taken old hub.store
  pub matches : ProgressMatches limits hub opened before after
      (piece_fed limits r sender bytes taken piece.refused)
  pub open_after : is_open (piece_fed limits r sender bytes taken piece.refused).run sender.conn ≡ true

-- and a beginning of what they let out is written
pub record PieceBreaksOff {D : Type 0} (medium : D → Medium) (limits : Limits) (r : Run) (sender : Sender)
    (bytes : List ℕ) (old new : StoreView D) (before after : Option (List ℕ)) : Type 0 where
  pub taken : ℕ
  pub piece : TakesPiece medium limits r sender bytes taken old new
  pub text : WritesPart before after (piece_fed limits r sender bytes taken piece.refused).text

-- the disk failed: none of the bytes is fed, or some are
abbrev pub PieceFails : {D : Type 0} → (D → Medium) → Limits → Run → Sender → List ℕ → StoreView D → StoreView D
    → Type 0
PieceFails medium limits r sender bytes old new =
    Takes medium old [] new ⊎ ((taken : ℕ) × TakesPiece medium limits r sender bytes taken old new)

-- none is fed, or some are and nothing of what they let out is written
abbrev pub PieceHalts : {D : Type 0} → Limits → Run → Sender → List ℕ → StoredHub D → List Opened → Type 0
PieceHalts limits r sender bytes hub opened =
    (now : Run) × IsBegun limits r 0 (Data sender.moment.0 sender.conn bytes) now
    × MatchesFailed limits hub opened now
