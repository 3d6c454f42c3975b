-- How long a server waits for its sockets before a turn (poll(2)), if it makes turns only when there is something to
-- do. It waits not at all while there is work already, at most until the earliest deadline of a call that waits, and
-- never more than a minute. While a call has a deadline it looks once a second whether the system's clock was stepped
-- forward. While an accept (accept(2)) has failed, the system does not tell of those who wait for it, so it is tried
-- again soon.
use Rattle.std.specs.Prelude.{◌≡◌, ◌⊎◌, ℕ, ◌-◌, ◌==◌, ◌&&◌, ◌||◌, min, not, Bool, true, if◌then◌else◌, length}
use Rattle.std.specs.Prelude.{Option, Some, None}
use Rattle.ipc_base.specs.declared.identity.Moment.{Moment}
use Rattle.ipc_hub.specs.View.{HubView, HasStopped}
use Rattle.ipc_server.specs.View.{ClientView, ServerView, SomeClient, is_gone, most_writes}

-- all in milliseconds
abbrev pub longest_rest : ℕ
longest_rest = 60000

abbrev pub longest_look : ℕ
longest_look = 1000

abbrev pub longest_retry : ℕ
longest_retry = 100

-- how long it may wait at a moment, by the earliest deadline
abbrev pub until_due : ℕ → Option Moment → ℕ
until_due now None = longest_rest
until_due now (Some deadline) = min longest_look (deadline.0 - now)

-- how long it may wait at a moment, by the earliest deadline, whether an accept has failed, and whether there is work
abbrev pub longest_wait : ℕ → Option Moment → Bool → Bool → ℕ
longest_wait now deadline failed busy =
    if busy then 0 else min (if failed then longest_retry else longest_rest) (until_due now deadline)

-- A turn has something to do with a client: to part with it, or, if it takes what it is sent, to read it, to feed what
-- was read, or to write more to it.
abbrev pub has_work : HubView → ClientView → Bool
has_work hub client =
    is_gone hub client || client.writing.failed
    || (not client.writing.full
    && (client.readable || not (length client.piece == 0) || (client.writing.writes == most_writes)))

-- There is work already: a turn has left connections that may wait, has something to do with a client, or is the one
-- that says that the server goes on no more.
abbrev pub IsBusy : {D : Type 0} → ServerView D → Type 0
IsBusy server =
    (server.crowded ≡ true) ⊎ HasStopped server.hub
    ⊎ SomeClient (λ c. has_work server.hub.hub c ≡ true) server.clients
