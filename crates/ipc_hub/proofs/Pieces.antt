-- Bytes taken in at once, and in pieces.
use Rattle.std.proofs.Common.{◌≡◌, ℕ, zero, suc, Bool, true, false, ◌&&◌, List, [], ◌∷◌, ◌++◌, length, drop, Option, Some, None, refl, sym, ap, ◌∙◌}
use Rattle.std.proofs.Common.{◌⊎◌, inl, inr, subst, arith, append_assoc, append-nil, rules}
use Rattle.std.specs.Prelude.{nat_eq, option_map}
use Rattle.ipc_base.specs.declared.errno.Errno.TheVariants.{ENOMEM}
use Rattle.ipc_limits.specs.declared.limits.Limits.{Limits}
use Rattle.ipc_wire.specs.Request.{PlainRequest}
use Rattle.ipc_wire.specs.Stream.{first, Ending, Stream, stream_of, continued}
use Rattle.ipc_wire.specs.Stream.PlainFrame.{More}
use Rattle.ipc_wire.specs.Stream.Ending.{Rest, Broken}
use Rattle.ipc_wire.proofs.CallerLemmas.{stream_begun, stream_pieces as pieces}
use Rattle.ipc_base.specs.Table.{value_at, with_value}
use Rattle.ipc_engine.specs.Event.{PlainEvent, PlainOutcome, Exit}
use Rattle.ipc_engine.specs.Step.{step}
use Rattle.ipc_engine.specs.Engine.{event_takes_memory}
use Rattle.ipc_hub.specs.Hub.{accepted, client_at, with_client, refusal, heard}
use Rattle.ipc_hub.specs.Hub.{is_for, leave, break_off, refuse, event_of, last_reply, told}
use Rattle.ipc_hub.specs.Hub.{welcomed, serve, on_event, on_request, unless_ended, on_requests, on_ending, on_stream, first_of, fitted}
use Rattle.ipc_hub.specs.Clients.{Client, Clients, client_endpoint as kind, own_process, with_frame, over, take_in, arriving}
use Rattle.ipc_hub.proofs.Kept.{heard-none}
use Rattle.ipc_base.proofs.CallerLemmas.{choice, test_cases, at-with, twice, own, at-map}

-- ---- a connection that has ended, and one that has not

pub ended-stays : (h : Clients) (conn : ℕ) (act : Client → Clients) (c : Client) → client_at h conn ≡ Some c → c.ended ≡ true → unless_ended kind h conn act ≡ h
ended-stays h conn act c here over = rw here (rw over refl)

pub acts : (h : Clients) (conn : ℕ) (act : Client → Clients) (c : Client) → client_at h conn ≡ Some c → c.ended ≡ false → unless_ended kind h conn act ≡ act c
acts h conn act c here live = rw here (rw live refl)

-- nothing happens on a connection that has ended, or is not there
abbrev pub IsOver : Clients → ℕ → Type 0
IsOver h conn = (act : Client → Clients) → unless_ended kind h conn act ≡ h

-- the client of a connection that goes on
pub record Live (h : Clients) (conn : ℕ) : Type 0 where
  pub c : Client
  pub here : client_at h conn ≡ Some c
  pub live : c.ended ≡ false

-- a connection is over, or it goes on
pub over_or_live : (h : Clients) (conn : ℕ) → IsOver h conn ⊎ Live h conn
over_or_live h conn = by_client (client_at h conn) refl
  where
    by_client : (r : Option Client) → client_at h conn ≡ r → IsOver h conn ⊎ Live h conn
    by_client None is = inl (λ act. rw is refl)
    by_client (Some c) is =
        elim (test_cases c.ended) [ inl done ↦ inl (λ act. ended-stays h conn act c is done) | inr live ↦ inr (record { c = c; here = is; live = live }) ]

-- the client with the bytes that it keeps taken out, and the hub
abbrev pub bare : Client → Client
bare c = record c { input = [] }

abbrev pub emptied : Clients → ℕ → Client → Clients
emptied h conn c = with_client h conn (bare c)

-- ---- the bytes kept are out of the way while requests are answered

-- the client at a number keeps no bytes
abbrev pub KeepsNone : Clients → ℕ → Type 0
KeepsNone h conn = (c : Client) → client_at h conn ≡ Some c → c.input ≡ []

put-keeps : (es : List (ℕ × Client)) (k : ℕ) (d : Client) → d.input ≡ [] → (x : Client) → value_at nat_eq (with_value nat_eq es k d) k ≡ Some x → x.input ≡ []
put-keeps [] k d none x is = cc
put-keeps (e ∷ es) k d none x is =
    elim (test_cases (nat_eq e.0 k)) [
      | inl t ↦ let same : Some d ≡ Some x = rw t at (rw t at is) in let one : x ≡ d = cc in ap (λ (y : Client). y.input) one ∙ none
      | inr f ↦ put-keeps es k d none x (rw f at (rw f at is))
    ]

-- replies leave the bytes, and whether it has ended
pub heard-same : (mark : ℕ) (os : List PlainOutcome) (c : Client) → ((heard kind mark os c).input ≡ c.input) × ((heard kind mark os c).ended ≡ c.ended)
heard-same mark [] c = (refl, refl)
heard-same mark (o ∷ os) c =
    choice (λ (d : Client). ((heard kind mark os d).input ≡ c.input) × ((heard kind mark os d).ended ≡ c.ended))
    (is_for o.pid (own_process c)) (with_frame c mark o) c
    (λ _. heard-same mark os (with_frame c mark o)) (λ _. heard-same mark os c)

delivers-keep : (mark : ℕ) (os : List PlainOutcome) (r : Option Client) → ((c : Client) → r ≡ Some c → c.input ≡ []) → (d : Client)
    → option_map (heard kind mark os) r ≡ Some d → d.input ≡ []
delivers-keep mark os None none d is = cc
delivers-keep mark os (Some c) none d is =
    let same : d ≡ heard kind mark os c = cc in ap (λ (x : Client). x.input) same ∙ (heard-same mark os c).0 ∙ none c refl

welcome-keeps : (mark : ℕ) (p : Option ℕ) (reply : Option PlainOutcome) (c : Client) → c.input ≡ [] → (told kind mark p reply c).input ≡ []
welcome-keeps mark (Some pid) reply c none = none
welcome-keeps mark None None c none = none
welcome-keeps mark None (Some o) c none =
    choice (λ (x : Client). x.input ≡ []) (nat_eq o.pid 0) (with_frame c mark o) (record c { joined_as = Some o.pid }) (λ _. none) (λ _. none)

length-fitted : (n : ℕ) (xs : List Bool) → length (fitted n xs) ≡ n
length-fitted zero xs = refl
length-fitted (suc n) xs = ap suc (length-fitted n (drop 1 xs))

module _ (limits : Limits) where
  serve-keeps : (h : Clients) (conn : ℕ) (c : Client) (e : PlainEvent) → c.input ≡ [] → KeepsNone (serve kind limits h conn c e) conn
  serve-keeps h conn c e none d is =
      let mark : ℕ = length (h.events ++ e ∷ []) in
      let os : List PlainOutcome = (step limits h.state e).outcomes in
      let w : Client = welcomed kind mark (last_reply os) c in
      delivers-keep mark os (value_at nat_eq (with_value nat_eq h.clients conn w) conn)
      (put-keeps h.clients conn w (welcome-keeps mark (own_process c) (last_reply os) c none)) d
      (sym (at-map (heard kind mark os) (with_value nat_eq h.clients conn w) conn) ∙ is)

  event-keeps : (h : Clients) (conn serial moment : ℕ) (c : Client) (refused : Bool) (made : Option PlainEvent) → c.input ≡ []
      → KeepsNone (on_event kind limits h conn c serial moment refused made) conn
  event-keeps h conn serial moment c refused None none = put-keeps _ conn _ refl
  event-keeps h conn serial moment c refused (Some e) none =
      choice (λ (t : Clients). KeepsNone t conn) (refused && event_takes_memory limits h.state e) (refuse kind h conn c serial) (serve kind limits h conn c e)
      (λ _. put-keeps h.clients conn (with_frame c (accepted h) (refusal serial ENOMEM)) none) (λ _. serve-keeps h conn c e none)

  pub request-keeps : (h : Clients) (conn moment : ℕ) (c : Client) (request : PlainRequest) (refused : Bool) → c.input ≡ []
      → KeepsNone (on_request kind limits h conn c moment request refused) conn
  request-keeps h conn moment c request refused = event-keeps h conn request.serial moment c refused (event_of (own_process c) request moment)

  unless-keeps : (h : Clients) (conn : ℕ) (act : Client → Clients) → KeepsNone h conn
      → ((c : Client) → client_at h conn ≡ Some c → KeepsNone (act c) conn) → KeepsNone (unless_ended kind h conn act) conn
  unless-keeps h conn act all does =
      elim (over_or_live h conn) [
        | inl done ↦ subst (λ (t : Clients). KeepsNone t conn) (sym (done act)) all
        | inr l ↦ subst (λ (t : Clients). KeepsNone t conn) (sym (acts h conn act l.c l.here l.live)) (does l.c l.here)
      ]

  pub requests-keep : (h : Clients) (conn moment : ℕ) (requests : List PlainRequest) (refused : List Bool) → KeepsNone h conn
      → KeepsNone (on_requests kind limits h conn moment requests refused) conn
  requests-keep h conn moment [] refused all = all
  requests-keep h conn moment (r ∷ rs) refused all =
      requests-keep (unless_ended kind h conn (λ c. on_request kind limits h conn c moment r (first_of refused))) conn moment rs (drop 1 refused)
      (unless-keeps h conn (λ c. on_request kind limits h conn c moment r (first_of refused)) all
      (λ c is. request-keeps h conn moment c r (first_of refused) (all c is)))

  -- ---- requests one after the other

  pub requests-append : (h : Clients) (conn moment : ℕ) (rs qs : List PlainRequest) (xs ys : List Bool) → length xs ≡ length rs
      → on_requests kind limits h conn moment (rs ++ qs) (xs ++ ys) ≡ on_requests kind limits (on_requests kind limits h conn moment rs xs) conn moment qs ys
  requests-append h conn moment [] qs [] ys same = refl
  requests-append h conn moment [] qs (x ∷ xs) ys same = cc
  requests-append h conn moment (r ∷ rs) qs [] ys same = cc
  requests-append h conn moment (r ∷ rs) qs (x ∷ xs) ys same =
      requests-append (unless_ended kind h conn (λ c. on_request kind limits h conn c moment r x)) conn moment rs qs xs ys (omega (arith, same))

  -- answers that are missing are no, and those too many are not looked at
  pub requests-fitted : (h : Clients) (conn moment : ℕ) (rs : List PlainRequest) (xs : List Bool)
      → on_requests kind limits h conn moment rs (fitted (length rs) xs) ≡ on_requests kind limits h conn moment rs xs
  requests-fitted h conn moment [] xs = refl
  requests-fitted h conn moment (r ∷ rs) xs =
      requests-fitted (unless_ended kind h conn (λ c. on_request kind limits h conn c moment r (first_of xs))) conn moment rs (drop 1 xs)

  pub requests-over : (h : Clients) (conn moment : ℕ) (rs : List PlainRequest) (xs : List Bool) → IsOver h conn
      → on_requests kind limits h conn moment rs xs ≡ h
  requests-over h conn moment [] xs over = refl
  requests-over h conn moment (r ∷ rs) xs over =
      ap (λ (t : Clients). on_requests kind limits t conn moment rs (drop 1 xs)) (over (λ c. on_request kind limits h conn c moment r (first_of xs)))
      ∙ requests-over h conn moment rs (drop 1 xs) over

  pub ending-over : (h : Clients) (conn moment : ℕ) (ending : Ending) → IsOver h conn → on_ending kind limits h conn moment ending ≡ h
  ending-over h conn moment (Rest bytes) over = over (λ c. with_client h conn (record c { input = bytes }))
  ending-over h conn moment (Broken serial) over = over (λ c. break_off kind limits h conn c serial moment)

  stream-over : (h : Clients) (conn moment : ℕ) (s : Stream) (refused : List Bool) → IsOver h conn → on_stream kind limits h conn moment s refused ≡ h
  stream-over h conn moment s refused done = search (rules, ending-over, requests-over)

  pub take_in-acts : (h : Clients) (conn moment : ℕ) (c : Client) (bytes : List ℕ) (refused : List Bool) → client_at h conn ≡ Some c → c.ended ≡ false
      → take_in limits h conn bytes moment refused ≡ on_stream kind limits (emptied h conn c) conn moment (stream_of (c.input ++ bytes)) refused
  take_in-acts h conn moment c bytes refused here live = search (rules, here, live)

  -- a client without a process stays as it is when a process leaves
  left_at : (h : Clients) (conn moment : ℕ) (c : Client) (p : Option ℕ) → client_at h conn ≡ Some c → own_process c ≡ None
      → client_at (leave kind limits h p moment) conn ≡ Some c
  left_at h conn moment c None here none = here
  left_at h conn moment c (Some pid) here none =
      let heard-it : Client → Client = heard kind (length (h.events ++ Exit pid moment ∷ [])) (step limits h.state (Exit pid moment)).outcomes in
      at-map heard-it h.clients conn ∙ ap (option_map heard-it) here ∙ ap Some (heard-none kind _ (step limits h.state (Exit pid moment)).outcomes c none)

  -- a stream that broke: the connection is over
  broken-over : (h : Clients) (conn moment serial : ℕ) → IsOver (on_ending kind limits h conn moment (Broken serial)) conn
  broken-over h conn moment serial act =
      let does : Client → Clients = λ d. break_off kind limits h conn d serial moment in
      elim (over_or_live h conn) [
        | inl done ↦ subst (λ (t : Clients). unless_ended kind t conn act ≡ t) (sym (done does)) (done act)
        | inr l ↦
            let gone : Client = over l.c in
            let left : Clients = leave kind limits (with_client h conn gone) (own_process l.c) moment in
            let there : client_at left conn ≡ Some gone =
            left_at (with_client h conn gone) conn moment gone (own_process l.c) (at-with h.clients conn gone l.c l.here) refl in
            subst (λ (t : Clients). unless_ended kind t conn act ≡ t) (sym (acts h conn does l.c l.here l.live))
            (ended-stays (does l.c) conn act _ (at-with left.clients conn _ gone there) refl)
      ]

  -- the rest of a stream that did not break, with more bytes
  rest-more : (h : Clients) (conn moment : ℕ) (bytes more : List ℕ) (refused : List Bool) → KeepsNone h conn
      → take_in limits (on_ending kind limits h conn moment (Rest bytes)) conn more moment refused
      ≡ on_stream kind limits h conn moment (stream_of (bytes ++ more)) refused
  rest-more h conn moment bytes more refused none =
      elim (over_or_live h conn) [
        | inl done ↦
            ap (λ (t : Clients). take_in limits t conn more moment refused) (ending-over h conn moment (Rest bytes) done)
            ∙ done (λ d. on_stream kind limits (emptied h conn d) conn moment (stream_of (d.input ++ more)) refused)
            ∙ sym (stream-over h conn moment (stream_of (bytes ++ more)) refused done)
        | inr l ↦
            let kept : Client = record (l.c) { input = bytes } in
            let bare : Client = record (l.c) { input = [] } in
            let same : bare ≡ l.c = ap (λ (i : List ℕ). record (l.c) { input = i }) (sym (none l.c l.here)) in
            let back : emptied (with_client h conn kept) conn kept ≡ h =
            ap (λ (es : List (ℕ × Client)). record h { clients = es })
            (twice h.clients conn kept bare ∙ ap (with_value nat_eq h.clients conn) same ∙ own h.clients conn l.c l.here) in
            ap (λ (t : Clients). take_in limits t conn more moment refused)
            (acts h conn (λ d. with_client h conn (record d { input = bytes })) l.c l.here l.live)
            ∙ take_in-acts (with_client h conn kept) conn moment kept more refused (at-with h.clients conn kept l.c l.here) l.live
            ∙ ap (λ (t : Clients). on_stream kind limits t conn moment (stream_of (bytes ++ more)) refused) back
      ]

  goes-on : (h : Clients) (conn moment : ℕ) (rs : List PlainRequest) (ending : Ending) (more : List ℕ) (xs ys : List Bool) → KeepsNone h conn
      → length xs ≡ length rs → take_in limits (on_ending kind limits (on_requests kind limits h conn moment rs xs) conn moment ending) conn more moment ys
      ≡ on_stream kind limits h conn moment (continued rs ending more) (xs ++ ys)
  goes-on h conn moment rs (Rest bytes) more xs ys none same =
      rest-more (on_requests kind limits h conn moment rs xs) conn moment bytes more ys (requests-keep h conn moment rs xs none)
      ∙ ap (λ (t : Clients). on_ending kind limits t conn moment (stream_of (bytes ++ more)).ending)
      (sym (requests-append h conn moment rs (stream_of (bytes ++ more)).requests xs ys same))
  goes-on h conn moment rs (Broken serial) more xs ys none same =
      let now : Clients = on_requests kind limits h conn moment rs xs in
      broken-over now conn moment serial (λ d. on_stream kind limits (emptied (on_ending kind limits now conn moment (Broken serial)) conn d) conn moment
      (stream_of (d.input ++ more)) ys)
      ∙ ap (λ (t : Clients). on_ending kind limits t conn moment (Broken serial))
      (sym (ap (λ (qs : List PlainRequest). on_requests kind limits h conn moment qs (xs ++ ys)) (sym (append-nil rs))
      ∙ requests-append h conn moment rs [] xs ys same))

  -- bytes taken in in two pieces are taken in at once
  pub take_in-pieces : (h : Clients) (conn moment : ℕ) (bytes more : List ℕ) (xs ys : List Bool)
      → take_in limits (take_in limits h conn bytes moment xs) conn more moment ys
      ≡ take_in limits h conn (bytes ++ more) moment (fitted (length (arriving (client_at h conn) bytes)) xs ++ ys)
  take_in-pieces h conn moment bytes more xs ys =
      elim (over_or_live h conn) [
        | inl done ↦ ap (λ (t : Clients). take_in limits t conn more moment ys) (done _) ∙ done _ ∙ sym (done _)
        | inr l ↦
            let s : Stream = stream_of (l.c.input ++ bytes) in
            let zs : List Bool = fitted (length s.requests) xs in
            let bare : Clients = emptied h conn l.c in
            let came : arriving (client_at h conn) bytes ≡ s.requests = rw l.here (rw l.live refl) in
            ap (λ (t : Clients). take_in limits t conn more moment ys)
            (take_in-acts h conn moment l.c bytes xs l.here l.live
            ∙ ap (λ (t : Clients). on_ending kind limits t conn moment s.ending) (sym (requests-fitted bare conn moment s.requests xs)))
            ∙ goes-on bare conn moment s.requests s.ending more zs ys (put-keeps h.clients conn _ refl) (length-fitted (length s.requests) xs)
            ∙ ap (λ (t : Stream). on_stream kind limits bare conn moment t (zs ++ ys))
            (sym (pieces (l.c.input ++ bytes) more) ∙ ap stream_of (append_assoc l.c.input bytes more))
            ∙ sym (take_in-acts h conn moment l.c (bytes ++ more) (zs ++ ys) l.here l.live)
            ∙ ap (λ (rs : List PlainRequest). take_in limits h conn (bytes ++ more) moment (fitted (length rs) xs ++ ys)) (sym came)
      ]

  -- taking in nothing does nothing
  pub take_in-nothing : (h : Clients) (conn moment : ℕ) → ((c : Client) → client_at h conn ≡ Some c → first c.input ≡ More)
      → take_in limits h conn [] moment [] ≡ h
  take_in-nothing h conn moment partial =
      elim (over_or_live h conn) [
        | inl done ↦ done _
        | inr l ↦
            let e : Client = record (l.c) { input = [] } in
            take_in-acts h conn moment l.c [] [] l.here l.live
            ∙ ap (λ (t : Stream). on_stream kind limits (emptied h conn l.c) conn moment t [])
            (ap stream_of (append-nil l.c.input) ∙ stream_begun l.c.input More (partial l.c l.here))
            ∙ acts (emptied h conn l.c) conn (λ d. with_client (emptied h conn l.c) conn (record d { input = l.c.input })) e
            (at-with h.clients conn e l.c l.here) l.live
            ∙ ap (λ (es : List (ℕ × Client)). record h { clients = es }) (twice h.clients conn e l.c ∙ own h.clients conn l.c l.here)
      ]
