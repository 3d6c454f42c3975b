use Rattle.std.proofs.Common.{◌≡◌, ◌<◌, ℕ, Bool, List, Option, true, false, Some, ap, sym, ◌∙◌, inl, inr}
use Rattle.ipc_base.proofs.CallerLemmas.{test_cases}
use Rattle.ipc_hub.specs.View.{HubView}
use Rattle.ipc_server.specs.Rest.{has_work}
use Rattle.ipc_server.specs.Rows.{EachBelow}
use Rattle.ipc_server.specs.View.{ClientView, SomeClient, client_of}
use Rattle.ipc_server.proofs.server.Server.is_busy.Goals as goal

-- it is said that a client has work, if one has
found : (hub : HubView) (clients : List (Option ClientView)) (capacity : ℕ) (said : Bool)
    → (said ≡ false → EachBelow capacity (λ client. has_work hub client ≡ false) clients)
    → ((number : ℕ) (client : ClientView) → client_of clients number ≡ Some client → number < capacity)
    → SomeClient (λ client. has_work hub client ≡ true) clients → said ≡ true
found hub clients capacity said none within some = elim (test_cases said) [
  | inl t ↦ t
  | inr f ↦
      let idle : has_work hub some.1 ≡ false = none f some.0 some.1 (within some.0 some.1 some.2) some.2 in
      let never : true ≡ false = sym some.3 ∙ idle in
      cc
]

pub returns-else-has_stopped : goal.returns-else-has_stopped
returns-else-has_stopped g c =
    let hub = ap (λ v. v.hub) c.self.view_is in
    let clients = ap (λ v. v.clients) c.self.view_is in (
      λ has. inr (inr (rw (hub, clients) at c.any_has_work.ensures.some has)),
      λ busy. elim busy [
        | inl crowded ↦ let never : false ≡ true = sym c.if-self.false ∙ ap (λ v. v.crowded) c.self.view_is ∙ crowded in cc
        | inr (inl stopped) ↦ let never : false ≡ true = c.if-has_stopped.ensures.1 (rw (sym hub) at stopped) in cc
        | inr (inr some) ↦ found c.self.inside.hub.hub _ c.self.inside.clients.capacity c.any_has_work.result c.any_has_work.ensures.none
            c.self.invariant.within (rw (sym hub, sym clients) at some)
      ],
    )
