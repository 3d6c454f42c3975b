-- What no call of the hub changes: which numbers there are, how much of the first frame is consumed, and the process that a
-- connection has joined as.
use Rattle.std.proofs.Common.{length, ◌≡◌, ◌⊎◌, ℕ, Bool, false, ◌&&◌, List, [], ◌∷◌, ◌++◌, drop, map, Option, Some, None, IfSome, refl, sym, ap, ◌∙◌}
use Rattle.std.proofs.Common.{inl, inr, subst}
use Rattle.std.specs.Prelude.{nat_eq, option_and_then, option_map, is_some, if◌then◌else◌}
use Rattle.ipc_limits.specs.declared.limits.Limits.{Limits}
use Rattle.ipc_wire.specs.Request.{PlainRequest}
use Rattle.ipc_engine.specs.Engine.{event_takes_memory}
use Rattle.ipc_wire.specs.Stream.{Ending, stream_of}
use Rattle.ipc_wire.specs.Stream.Ending.{Rest, Broken}
use Rattle.ipc_base.specs.Table.{value_at, with_value, keys_of, seen_as, ArePaired}
use Rattle.ipc_engine.specs.Event.{PlainEvent, PlainOutcome, Tick, Exit}
use Rattle.ipc_engine.specs.Step.{step}
use Rattle.ipc_hub.specs.Hub.{heard, accept, leave, break_off, refuse, told as as_told, welcomed, serve, is_for}
use Rattle.ipc_hub.specs.Hub.{last_reply, event_of, on_event, on_request, unless_ended, first_of, on_requests, on_ending}
use Rattle.ipc_hub.specs.Clients.{Client, Clients, Frame, client_at, with_client, client_endpoint as kind, own_process, with_frame, over, take_in, feed, tick}
use Rattle.ipc_hub.specs.View.{StoredHub}
use Rattle.ipc_hub.specs.Relations.Matches.{StoredMatches}
use Rattle.ipc_script.specs.declared.report.Opened.{Opened}
use Rattle.ipc_script.specs.Answered.{joined_at}
use Rattle.ipc_script.specs.Script.{Run}
use Rattle.ipc_script.specs.Relations.Matches.{RunMatches, HasWholeFrames, opened_of}
use Rattle.ipc_base.proofs.CallerLemmas.{own as put_same, at-map as value_mapped, keys-map as keys_mapped, choice, paired-at, paired-with}

-- ---- each client becomes another, as by this relation

-- it is kept by what is done to a client
pub record IsSteady (R : Client → Client → Type 0) : Type 0 where
  pub same : (c : Client) → R c c
  pub both : (b c d : Client) → R b c → R c d → R b d
  pub tells : (c : Client) (frames : List Frame) → R c (record c { frames = frames })
  pub joins : (c : Client) (pid : ℕ) → c.ended ≡ false → own_process c ≡ None → R c (record c { joined_as = Some pid })
  pub keeps : (c : Client) (bytes : List ℕ) → R c (record c { input = bytes })
  pub ends : (c : Client) → R c (over c)

module _ (R : Client → Client → Type 0) (k : IsSteady R) where
  same-all : (t : List (ℕ × Client)) → ArePaired R t t
  same-all [] = tt
  same-all (e ∷ es) = (refl, (k.same e.1, same-all es))

  both-all : (t u v : List (ℕ × Client)) → ArePaired R t u → ArePaired R u v → ArePaired R t v
  both-all [] [] [] one two = tt
  both-all [] [] (z ∷ v) one two = absurd two
  both-all [] (y ∷ u) v one two = absurd one
  both-all (x ∷ t) [] v one two = absurd one
  both-all (x ∷ t) (y ∷ u) [] one two = absurd two
  both-all (x ∷ t) (y ∷ u) (z ∷ v) one two =
      (one.0 ∙ two.0, (k.both x.1 y.1 z.1 one.1.0 two.1.0, both-all t u v one.1.1 two.1.1))

  seen-all : (f : Client → Client) (t : List (ℕ × Client)) → ((c : Client) → R c (f c)) → ArePaired R t (seen_as f t)
  seen-all f [] each = tt
  seen-all f (e ∷ es) each = (refl, (each e.1, seen-all f es each))

  -- a client put at its number
  put-like : (t u : List (ℕ × Client)) (n : ℕ) (c d : Client) → ArePaired R t u → value_at nat_eq t n ≡ Some c → R c d
      → ArePaired R t (with_value nat_eq u n d)
  put-like t u n c d like at new =
      subst (λ (es : List (ℕ × Client)). ArePaired R es (with_value nat_eq u n d)) (put_same t n c at) (paired-with R t u n c d like new)

  abbrev Becomes : Clients → Clients → Type 0
  Becomes h next = ArePaired R h.clients next.clients

  put-own : (h : Clients) (n : ℕ) (c d : Client) → client_at h n ≡ Some c → R c d → Becomes h (with_client h n d)
  put-own h n c d at new = put-like h.clients h.clients n c d (same-all h.clients) at new

  heard-like : (mark : ℕ) (os : List PlainOutcome) (c : Client) → R c (heard kind mark os c)
  heard-like mark [] c = k.same c
  heard-like mark (o ∷ os) c =
      choice (λ (d : Client). R c (heard kind mark os d)) (is_for o.pid (own_process c)) (with_frame c mark o) c
      (λ _. k.both c (with_frame c mark o) (heard kind mark os (with_frame c mark o)) (k.tells c _) (heard-like mark os (with_frame c mark o)))
      (λ _. heard-like mark os c)

  pub like-accept : (limits : Limits) (h : Clients) (e : PlainEvent) → Becomes h (accept kind limits h e)
  like-accept limits h e =
      let mark : ℕ = length (h.events ++ e ∷ []) in
      let os : List PlainOutcome = (step limits h.state e).outcomes in
      seen-all (heard kind mark os) h.clients (heard-like mark os)

  pub like-leave : (limits : Limits) (h : Clients) (process : Option ℕ) (moment : ℕ) → Becomes h (leave kind limits h process moment)
  like-leave limits h None moment = same-all h.clients
  like-leave limits h (Some pid) moment = like-accept limits h (Exit pid moment)

  told-like : (mark : ℕ) (reply : Option PlainOutcome) (c : Client) → c.ended ≡ false → (p : Option ℕ) → own_process c ≡ p
      → R c (as_told kind mark p reply c)
  told-like mark reply c live (Some pid) is = k.same c
  told-like mark None c live None is = k.same c
  told-like mark (Some o) c live None is =
      choice (R c) (nat_eq o.pid 0) (with_frame c mark o) (record c { joined_as = Some o.pid }) (λ _. k.tells c _) (λ _. k.joins c o.pid live is)

  module _ (limits : Limits) (conn moment : ℕ) where
    module _ (h : Clients) (c : Client) (at : client_at h conn ≡ Some c) where
      like-serve : c.ended ≡ false → (e : PlainEvent) → Becomes h (serve kind limits h conn c e)
      like-serve live e =
          let reply = last_reply (step limits h.state e).outcomes in
          let d : Client = welcomed kind (length (h.events ++ e ∷ [])) reply c in
          let next : Clients = with_client h conn d in
          both-all h.clients next.clients (accept kind limits next e).clients
          (put-own h conn c d at (told-like (length (h.events ++ e ∷ [])) reply c live (own_process c) refl)) (like-accept limits next e)

      like-break_off : (serial : ℕ) → Becomes h (break_off kind limits h conn c serial moment)
      like-break_off serial =
          let bare : Clients = with_client h conn (over c) in
          let left : Clients = leave kind limits bare (own_process c) moment in
          put-like h.clients left.clients conn c _
          (both-all h.clients bare.clients left.clients (put-own h conn c (over c) at (k.ends c)) (like-leave limits bare (own_process c) moment)) at
          (k.both c (over c) _ (k.ends c) (k.tells (over c) _))

    like-event : (h : Clients) (c : Client) (serial : ℕ) (refused : Bool) (made : Option PlainEvent) → client_at h conn ≡ Some c → c.ended ≡ false
        → Becomes h (on_event kind limits h conn c serial moment refused made)
    like-event h c serial refused None at live = like-break_off h c at serial
    like-event h c serial refused (Some e) at live =
        choice (Becomes h) (refused && event_takes_memory limits h.state e) (refuse kind h conn c serial) (serve kind limits h conn c e)
        (λ _. put-own h conn c _ at (k.tells c _)) (λ _. like-serve h c at live e)

    like-unless : (act : Client → Clients) (h : Clients) → ((c : Client) → client_at h conn ≡ Some c → c.ended ≡ false → Becomes h (act c))
        → Becomes h (unless_ended kind h conn act)
    like-unless act h each = tried (client_at h conn) refl
      where
        tried : (o : Option Client) → client_at h conn ≡ o → Becomes h (unless_ended kind h conn act)
        tried None e = rw e (same-all h.clients)
        tried (Some c) e = rw e (choice (Becomes h) c.ended h (act c) (λ _. same-all h.clients) (λ live. each c e live))

    like-requests : (h : Clients) (rs : List PlainRequest) (refused : List Bool) → Becomes h (on_requests kind limits h conn moment rs refused)
    like-requests h [] refused = same-all h.clients
    like-requests h (r ∷ rs) refused =
        let act : Client → Clients = λ c. on_request kind limits h conn c moment r (first_of refused) in
        let now : Clients = unless_ended kind h conn act in
        both-all h.clients now.clients (on_requests kind limits now conn moment rs (drop 1 refused)).clients
        (like-unless act h (λ c at live. like-event h c r.serial (first_of refused) (event_of (own_process c) r moment) at live))
        (like-requests now rs (drop 1 refused))

    like-ending : (h : Clients) (ending : Ending) → Becomes h (on_ending kind limits h conn moment ending)
    like-ending h (Rest bytes) = like-unless _ h (λ c at live. put-own h conn c _ at (k.keeps c bytes))
    like-ending h (Broken serial) = like-unless _ h (λ c at live. like-break_off h c at serial)

    like-take_in : (h : Clients) (bytes : List ℕ) (refused : List Bool) → Becomes h (take_in limits h conn bytes moment refused)
    like-take_in h bytes refused =
        like-unless _ h (λ c at live.
        let stream = stream_of (c.input ++ bytes) in
        let start : Clients = with_client h conn (record c { input = [] }) in
        let answered : Clients = on_requests kind limits start conn moment stream.requests refused in
        both-all h.clients start.clients _ (put-own h conn c _ at (k.keeps c []))
        (both-all start.clients answered.clients _ (like-requests start stream.requests refused) (like-ending answered stream.ending)))

    pub like-feed : (h : Clients) (bytes : List ℕ) (refused : List Bool) → Becomes h (feed limits h conn bytes moment refused)
    like-feed h bytes refused =
        let now : Clients = tick limits h moment in
        both-all h.clients now.clients (feed limits h conn bytes moment refused).clients (like-accept limits h (Tick moment)) (like-take_in now bytes refused)

-- ---- the numbers, each with how much of the first frame is consumed

abbrev pub heads : List (ℕ × Client) → List (ℕ × ℕ)
heads t = map (λ e. (e.0, e.1.consumed)) t

abbrev AreAsConsumed : Client → Client → Type 0
AreAsConsumed c d = d.consumed ≡ c.consumed

as-consumed : IsSteady AreAsConsumed
as-consumed =
    record {
      same = λ c. refl;
      both = λ b c d one two. two ∙ one;
      tells = λ c frames. refl;
      joins = λ c pid live none. refl;
      keeps = λ c bytes. refl;
      ends = λ c. refl;
    }

heads-of : (t u : List (ℕ × Client)) → ArePaired AreAsConsumed t u → heads u ≡ heads t
heads-of [] [] paired = refl
heads-of [] (f ∷ u) paired = absurd paired
heads-of (e ∷ t) [] paired = absurd paired
heads-of (e ∷ t) (f ∷ u) paired = λ i. (sym paired.0 i, paired.1.0 i) ∷ heads-of t u paired.1.1 i

pub heads_leave : (limits : Limits) (h : Clients) (process : Option ℕ) (moment : ℕ) → heads (leave kind limits h process moment).clients ≡ heads h.clients
heads_leave limits h process moment = heads-of h.clients _ (like-leave AreAsConsumed as-consumed limits h process moment)

module _ (limits : Limits) (conn moment : ℕ) where
  pub heads_tick : (h : Clients) → heads (tick limits h moment).clients ≡ heads h.clients
  heads_tick h = heads-of h.clients _ (like-accept AreAsConsumed as-consumed limits h (Tick moment))

  pub heads_feed : (h : Clients) (bytes : List ℕ) (refused : List Bool) → heads (feed limits h conn bytes moment refused).clients ≡ heads h.clients
  heads_feed h bytes refused = heads-of h.clients _ (like-feed AreAsConsumed as-consumed limits conn moment h bytes refused)

-- ---- the process that each has joined as

-- it is the same, or was none
abbrev pub Joins : Option ℕ → Option ℕ → Type 0
Joins was now = (was ≡ None) ⊎ (now ≡ was)

pub joins-both : (p q r : Option ℕ) → Joins p q → Joins q r → Joins p r
joins-both p q r (inl none) two = inl none
joins-both p q r (inr same) (inl none) = inl (sym same ∙ none)
joins-both p q r (inr same) (inr also) = inr (also ∙ same)

abbrev HasJoined : Client → Client → Type 0
HasJoined c d = Joins c.joined_as d.joined_as

has-joined : IsSteady HasJoined
has-joined =
    record {
      same = λ c. inr refl;
      both = λ b c d one two. joins-both b.joined_as c.joined_as d.joined_as one two;
      tells = λ c frames. inr refl;
      joins = λ c pid live none. inl (ap (λ (b : Bool). if b then None else c.joined_as) (sym live) ∙ none);
      keeps = λ c bytes. inr refl;
      ends = λ c. inr refl;
    }

abbrev pub joined-of : Option Client → Option ℕ
joined-of found = option_and_then (λ (c : Client). c.joined_as) found

-- bytes of a connection are fed
pub feed_joins : (limits : Limits) (conn moment : ℕ) (h : Clients) (bytes : List ℕ) (refused : List Bool) (other : ℕ)
    → Joins (joined_at h other) (joined_at (feed limits h conn bytes moment refused) other)
feed_joins limits conn moment h bytes refused other = by_client (client_at h other) refl
  where
    next : Clients
    next = feed limits h conn bytes moment refused

    by_client : (found : Option Client) → client_at h other ≡ found → Joins (joined_at h other) (joined_at next other)
    by_client None is = inl (ap joined-of is)
    by_client (Some c) is =
        let now = paired-at HasJoined h.clients next.clients other c (like-feed HasJoined has-joined limits conn moment h bytes refused) is in
        elim now.1.1 [ inl none ↦ inl (ap joined-of is ∙ none) | inr same ↦ inr (ap joined-of now.1.0 ∙ same ∙ sym (ap joined-of is)) ]

-- ---- what is told of it in a run

some_head : (a b : Option Client) → option_map (λ (c : Client). c.consumed) a ≡ option_map (λ (c : Client). c.consumed) b → is_some a ≡ is_some b
some_head None None e = refl
some_head None (Some d) e = cc
some_head (Some c) None e = cc
some_head (Some c) (Some d) e = refl

untouched_head : (a b : Option Client) → option_map (λ (c : Client). c.consumed) b ≡ option_map (λ (c : Client). c.consumed) a → IfSome a HasWholeFrames
    → IfSome b HasWholeFrames
untouched_head a None e u = tt
untouched_head None (Some d) e u = cc
untouched_head (Some c) (Some d) e u = let same : d.consumed ≡ c.consumed = cc in same ∙ u

module _ (t u : List (ℕ × Client)) (like : heads u ≡ heads t) where
  pub same_keys : keys_of u ≡ keys_of t
  same_keys = sym (keys_mapped (λ (c : Client). c.consumed) u) ∙ (ap keys_of like ∙ keys_mapped (λ (c : Client). c.consumed) t)

  same_heads : (n : ℕ) → option_map (λ (c : Client). c.consumed) (value_at nat_eq u n) ≡ option_map (λ (c : Client). c.consumed) (value_at nat_eq t n)
  same_heads n =
      sym (value_mapped (λ (c : Client). c.consumed) u n)
      ∙ (ap (λ (hs : List (ℕ × ℕ)). value_at nat_eq hs n) like ∙ value_mapped (λ (c : Client). c.consumed) t n)

  pub same_open : (n : ℕ) → is_some (value_at nat_eq u n) ≡ is_some (value_at nat_eq t n)
  same_open n = some_head (value_at nat_eq u n) (value_at nat_eq t n) (same_heads n)

  pub same_untouched : (n : ℕ) → IfSome (value_at nat_eq t n) HasWholeFrames → IfSome (value_at nat_eq u n) HasWholeFrames
  same_untouched n = untouched_head (value_at nat_eq t n) (value_at nat_eq u n) (same_heads n)

-- a call that changes no heads leaves the program somewhere in a line
pub steady : {D : Type 0} (limits : Limits) (hub next : StoredHub D) (opened : List Opened) (r : Run) (now : Clients) → RunMatches limits hub opened r
    → heads now.clients ≡ heads r.hub.clients → StoredMatches limits next now → RunMatches limits next opened (record r { hub = now })
steady limits hub next opened r now i like s =
    record {
      matches = s;
      kept = i.kept ∙ ap (map (opened_of r.told)) (sym (same_keys r.hub.clients now.clients like));
      rising = rw (same_keys r.hub.clients now.clients like) i.rising;
      whole = λ n. same_untouched r.hub.clients now.clients like n (i.whole n);
    }
