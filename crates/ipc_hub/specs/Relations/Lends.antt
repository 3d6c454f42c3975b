-- What connections are, once a `&mut` to the session of one has ended.
use Rattle.std.specs.Prelude.{◌≡◌, ℕ, Option}
use Rattle.std.specs.Borrow.{Fml, MutBor, LendsSo}
use Rattle.ipc_hub.specs.contracts.connection.Session.{the_row as session_row}
use Rattle.ipc_hub.specs.contracts.connections.Connections.{the_row as connections_row}
use Rattle.ipc_hub.specs.View.{ConnectionView}
use Rattle.ipc_hub.specs.Relations.Rows.{Table, changed}

-- the number has the last session written through r, and at `None` nothing has changed
abbrev pub lends_session : MutBor Table → ℕ → Option (MutBor ConnectionView) → Fml
lends_session o conn r =
    LendsSo connections_row session_row o r (λ n s. n ≡ changed (λ _. s) conn o.now) (λ n. n ≡ o.now)
