-- One theorem for whatever a hub keeps of its connections: a relation of endpoints that is kept by what is done to one of
-- them is kept by every event, request and piece of bytes.
use Rattle.std.proofs.Common.{◌≡◌, ◌⊎◌, ℕ, ◌≤◌, ◌<◌, Bool, arith, true, false, ◌&&◌, List, [], ◌∷◌, ◌++◌}
use Rattle.std.proofs.Common.{length, drop, Option, Some, None, refl, sym, ap, subst, ◌∙◌, inl, inr}
use Rattle.std.specs.Prelude.{nat_eq, if◌then◌else◌, All}
use Rattle.std.proofs.lemmas.Bool.{and_parts, eqb-true}
use Rattle.std.proofs.lemmas.List.{length-append}
use Rattle.std.proofs.lemmas.List.Elements.{All-head, All-tail}
use Rattle.ipc_base.specs.declared.errno.Errno.{Errno}
use Rattle.ipc_base.specs.declared.errno.Errno.TheVariants.{ENOMEM, EPROTO}
use Rattle.ipc_limits.specs.declared.limits.Limits.{Limits}
use Rattle.ipc_base.specs.Table.{value_at, with_value, ArePaired}
use Rattle.ipc_base.proofs.CallerLemmas.{paired-at, paired-none, paired-with, paired-weaker, paired-seen}
use Rattle.ipc_wire.specs.Request.{PlainRequest}
use Rattle.ipc_wire.specs.Stream.{Ending, PlainFrame, Stream, stream_of}
use Rattle.ipc_wire.specs.Stream.Ending.{Rest, Broken}
use Rattle.ipc_wire.specs.Stream.PlainFrame.{More, Whole, Fault}
use Rattle.ipc_state.specs.State.{State}
use Rattle.ipc_engine.specs.Engine.{event_takes_memory}
use Rattle.ipc_engine.specs.Event.{PlainEvent, PlainOutcome, Exit}
use Rattle.ipc_engine.specs.Step.{step}
use Rattle.ipc_hub.specs.Hub.{Endpoint, Hub, accepted, with_client, refusal, is_for, last_reply, event_of, first_of, delivered, heard, deliver_all}
use Rattle.ipc_hub.specs.Hub.{accept, leave, break_off, refuse, told, welcomed, serve, on_event, on_request, acted, unless_ended, on_requests}
use Rattle.ipc_hub.specs.Hub.{on_ending, on_stream, take_in}
use Rattle.ipc_hub.specs.Replies.{IsFor, IsRefusal}
use Rattle.ipc_hub.proofs.Rows.{for-one}

-- two choices by one test
pub both_choose : {A B : Type 0} (R : A → B → Type 0) (a b : Bool) (x x' : A) (y y' : B) → a ≡ b → (b ≡ true → R x y) → (b ≡ false → R x' y')
    → R (if a then x else x') (if b then y else y')
both_choose R true true x x' y y' same first second = first refl
both_choose R true false x x' y y' same first second = cc
both_choose R false true x x' y y' same first second = cc
both_choose R false false x x' y y' same first second = second refl

-- what all replies are, the last one is
pub last-of : (P : PlainOutcome → Type 0) (os : List PlainOutcome) (o : PlainOutcome) → All P os → last_reply os ≡ Some o → P o
last-of P [] o all last = cc
last-of P (p ∷ []) o all last = let same : p ≡ o = cc in subst P same (All-head P p [] all)
last-of P (p ∷ q ∷ os) o all last = last-of P (q ∷ os) o (All-tail P p (q ∷ os) all) last

-- an endpoint without a process hears no reply
pub heard-none : {E : Type 0} (kind : Endpoint E) (mark : ℕ) (os : List PlainOutcome) (c : E) → kind.process c ≡ None → heard kind mark os c ≡ c
heard-none kind mark [] c none = refl
heard-none kind mark (o ∷ os) c none = let same : delivered kind mark o c ≡ c = rw none refl in ap (heard kind mark os) same ∙ heard-none kind mark os c none

-- After these events a refusal may follow: others have come since, or memory was refused, or the endpoint has no process.
pub record MayRefuse {E : Type 0} (kind : Endpoint E) (h : Hub E) (c : E) (refused : Bool) (es : List PlainEvent) : Type 0 where
  pub known : accepted h ≤ length es
  pub cause : (accepted h < length es) ⊎ ((refused ≡ true) ⊎ (kind.process c ≡ None))

-- what bytes of a connection come to, by what stands at the front of them then
abbrev pub comes_of : {E : Type 0} (kind : Endpoint E) (limits : Limits) (h : Hub E) (conn moment : ℕ) (c : E) (next : List ℕ) → PlainFrame → Bool → Hub E
comes_of kind limits h conn moment c next More refused = with_client h conn (kind.keeping c (kind.input c ++ next))
comes_of kind limits h conn moment c next (Fault serial) refused =
    break_off kind limits (with_client h conn (kind.keeping c [])) conn (kind.keeping c []) serial moment
comes_of kind limits h conn moment c next (Whole used request) refused =
    on_request kind limits (with_client h conn (kind.keeping c [])) conn (kind.keeping c []) moment request refused

module _ {E F : Type 0} (one : Endpoint E) (two : Endpoint F) (S : List PlainEvent → E → F → Type 0) where
  -- after so many events this reply may be put into two related endpoints, if it is for them
  abbrev pub CanPush : List PlainEvent → PlainOutcome → Type 0
  CanPush es o = (mark : ℕ) (c : E) (d : F) → IsFor (two.process d) o.pid → S es c d → S es (one.push c mark o) (two.push d (length es) o)

  -- what else is done to an endpoint keeps the relation, and so does an event
  pub record IsKept : Type 0 where
    pub process : (es : List PlainEvent) (c : E) (d : F) → S es c d → one.process c ≡ two.process d
    pub input : (es : List PlainEvent) (c : E) (d : F) → S es c d → one.input c ≡ two.input d
    pub ended : (es : List PlainEvent) (c : E) (d : F) → S es c d → one.ended c ≡ two.ended d
    pub joins : (es : List PlainEvent) (c : E) (d : F) (pid : ℕ) → two.ended d ≡ false → two.process d ≡ None → S es c d
        → S es (one.joined c pid) (two.joined d pid)
    pub keeps : (es : List PlainEvent) (c : E) (d : F) (bytes : List ℕ) → S es c d → S es (one.keeping c bytes) (two.keeping d bytes)
    pub goes_on : (d : F) (bytes : List ℕ) → two.ended (two.keeping d bytes) ≡ two.ended d
    pub ends : (es : List PlainEvent) (c : E) (d : F) → S es c d → S es (one.over c) (two.over d)
    pub later : (es : List PlainEvent) (e : PlainEvent) (c : E) (d : F) → S es c d → S (es ++ e ∷ []) c d

  module _ (Q : List PlainEvent → State → List PlainEvent → Type 0) where
    -- the states are the same, the endpoints are related, and this holds of the events of the first, and of the state and the events
    -- of the second
    pub record Related (g : Hub E) (h : Hub F) : Type 0 where
      pub state : g.state ≡ h.state
      pub clients : ArePaired (S h.events) g.clients h.clients
      pub known : Q g.events h.state h.events

    -- it holds after each event, each reply of which may be put into related endpoints then, as may a refusal at any time
    pub record Allows (limits : Limits) : Type 0 where
      pub next : (ds : List PlainEvent) (s : State) (es : List PlainEvent) (e : PlainEvent) → Q ds s es
          → Q (ds ++ e ∷ []) (step limits s e).state (es ++ e ∷ [])
      pub replies : (ds : List PlainEvent) (s : State) (es : List PlainEvent) (e : PlainEvent) → Q ds s es
          → All (CanPush (es ++ e ∷ [])) (step limits s e).outcomes
      pub refusals : (es : List PlainEvent) (serial : ℕ) (error : Errno) → IsRefusal error → CanPush es (refusal serial error)

  module _ (k : IsKept) where
    -- ---- replies

    heard-kept : (es : List PlainEvent) (mark : ℕ) (os : List PlainOutcome) (c : E) (d : F) → All (CanPush es) os → S es c d
        → S es (heard one mark os c) (heard two (length es) os d)
    heard-kept es mark [] c d can s = s
    heard-kept es mark (o ∷ os) c d can s =
        heard-kept es mark os (delivered one mark o c) (delivered two (length es) o d) (All-tail (CanPush es) o os can)
        (both_choose (S es) (is_for o.pid (one.process c)) (is_for o.pid (two.process d)) (one.push c mark o) c (two.push d (length es) o) d
        (ap (is_for o.pid) (k.process es c d s)) (λ mine. All-head (CanPush es) o os can mark c d (inl (for-one o (two.process d) mine)) s) (λ _. s))

    welcomed-kept : (es : List PlainEvent) (mark : ℕ) (r : Option PlainOutcome) (c : E) (d : F) → two.ended d ≡ false
        → ((o : PlainOutcome) → r ≡ Some o → CanPush es o) → S es c d → S es (welcomed one mark r c) (welcomed two (length es) r d)
    welcomed-kept es mark r c d live can s =
        subst (λ (p : Option ℕ). S es (told one mark p r c) (welcomed two (length es) r d)) (sym (k.process es c d s)) (by_process (two.process d) refl r can)
      where
        by_process : (p : Option ℕ) → two.process d ≡ p → (q : Option PlainOutcome) → ((o : PlainOutcome) → q ≡ Some o → CanPush es o)
            → S es (told one mark p q c) (told two (length es) p q d)
        by_process (Some pid) is q can' = s
        by_process None is None can' = s
        by_process None is (Some o) can' =
            both_choose (S es) (nat_eq o.pid 0) (nat_eq o.pid 0) (one.push c mark o) (one.joined c o.pid) (two.push d (length es) o) (two.joined d o.pid) refl
            (λ none. can' o refl mark c d (inr (eqb-true o.pid 0 none)) s) (λ _. k.joins es c d o.pid live is s)

    module _ (Q : List PlainEvent → State → List PlainEvent → Type 0) (limits : Limits) where
      -- ---- events

      -- what is asked holds after this event, and its replies may be put then
      abbrev pub Passes : Hub E → Hub F → PlainEvent → Type 0
      Passes g h e =
          Q (g.events ++ e ∷ []) (step limits h.state e).state (h.events ++ e ∷ []) × All (CanPush (h.events ++ e ∷ [])) (step limits h.state e).outcomes

      pub put-kept : (conn : ℕ) {g : Hub E} {h : Hub F} (c : E) (d : F) → Related Q g h → S h.events c d
          → Related Q (with_client g conn c) (with_client h conn d)
      put-kept conn {g} {h} c d r s = record { state = r.state; clients = paired-with (S h.events) g.clients h.clients conn c d r.clients s; known = r.known }

      accept-with : (g : Hub E) (h : Hub F) (cs : List (ℕ × E)) (ds : List (ℕ × F)) (e : PlainEvent) → Passes g h e → g.state ≡ h.state
          → ArePaired (S (h.events ++ e ∷ [])) cs ds
          → Related Q (accept one limits (record g { clients = cs }) e) (accept two limits (record h { clients = ds }) e)
      accept-with g h cs ds e passes same paired =
          let es : List PlainEvent = h.events ++ e ∷ [] in
          let mark : ℕ = length (g.events ++ e ∷ []) in
          let os : List PlainOutcome = (step limits h.state e).outcomes in
          record {
            state = ap (λ (s : State). (step limits s e).state) same;
            clients =
                subst (λ (s : State). ArePaired (S es) (deliver_all one mark cs (step limits s e).outcomes) (deliver_all two (length es) ds os)) (sym same)
                (paired-seen (S es) (S es) cs ds (heard one mark os) (heard two (length es) os) paired (λ c d s. heard-kept es mark os c d passes.1 s));
            known = passes.0;
          }

      later-kept : {g : Hub E} {h : Hub F} (e : PlainEvent) → Related Q g h → ArePaired (S (h.events ++ e ∷ [])) g.clients h.clients
      later-kept {g} {h} e r = paired-weaker (S h.events) (S (h.events ++ e ∷ [])) g.clients h.clients r.clients (k.later h.events e)

      pub accept-kept : {g : Hub E} {h : Hub F} (e : PlainEvent) → Passes g h e → Related Q g h → Related Q (accept one limits g e) (accept two limits h e)
      accept-kept {g} {h} e passes r = accept-with g h g.clients h.clients e passes r.state (later-kept e r)

      pub leave-kept : {g : Hub E} {h : Hub F} (p : Option ℕ) (moment : ℕ) → ((e : PlainEvent) → Passes g h e) → Related Q g h
          → Related Q (leave one limits g p moment) (leave two limits h p moment)
      leave-kept None moment all r = r
      leave-kept (Some pid) moment all r = accept-kept (Exit pid moment) (all (Exit pid moment)) r

      -- an endpoint keeps its partner when a process leaves
      left-later : (h : Hub F) (p : Option ℕ) (moment : ℕ) (c : E) (d : F) → S h.events c d → S (leave two limits h p moment).events c d
      left-later h None moment c d s = s
      left-later h (Some pid) moment c d s = k.later h.events (Exit pid moment) c d s

      left-more : (h : Hub F) (d : F) (refused : Bool) (p : Option ℕ) (moment : ℕ) → two.process d ≡ p
          → MayRefuse two h d refused (leave two limits h p moment).events
      left-more h d refused None moment is = record { known = omega arith; cause = inr (inr is) }
      left-more h d refused (Some pid) moment is =
          let more = length-append h.events (Exit pid moment ∷ []) in record { known = omega (arith, more); cause = inl (omega (arith, more)) }

      -- ---- requests

      -- two related endpoints that go on, of hubs in which each event would pass, and refusals from now on
      module _ (conn moment : ℕ) {g : Hub E} {h : Hub F} (c : E) (d : F) (live : two.ended d ≡ false) (all : (e : PlainEvent) → Passes g h e) (refused : Bool)
          (refusals : (es : List PlainEvent) → MayRefuse two h d refused es → (serial : ℕ) (error : Errno) → IsRefusal error
          → CanPush es (refusal serial error)) (r : Related Q g h) (s : S h.events c d) where
        break-kept : (serial : ℕ) → Related Q (break_off one limits g conn c serial moment) (break_off two limits h conn d serial moment)
        break-kept serial =
            let over : S h.events (one.over c) (two.over d) = k.ends h.events c d s in
            let g' : Option ℕ → Hub E = λ q. leave one limits (with_client g conn (one.over c)) q moment in
            let p : Option ℕ = two.process d in
            let gone : Hub F = with_client h conn (two.over d) in
            let h' : Hub F = leave two limits gone p moment in
            let m = left-more gone d refused p moment refl in
            let may : MayRefuse two h d refused h'.events = record { known = m.known; cause = m.cause } in
            let last : Option ℕ → E = λ q. one.push (one.over c) (accepted (g' q)) (refusal serial EPROTO) in
            subst (λ (q : Option ℕ). Related Q (with_client (g' q) conn (last q)) (break_off two limits h conn d serial moment))
            (sym (k.process h.events c d s)) (put-kept conn (last p) (two.push (two.over d) (accepted h') (refusal serial EPROTO))
            (leave-kept p moment all (put-kept conn (one.over c) (two.over d) r over))
            (refusals h'.events may serial EPROTO (inr (inl refl)) (accepted (g' p)) (one.over c) (two.over d) (inr refl)
            (left-later gone p moment (one.over c) (two.over d) over)))

        serve-kept : (e : PlainEvent) → Related Q (serve one limits g conn c e) (serve two limits h conn d e)
        serve-kept e =
            let es : List PlainEvent = h.events ++ e ∷ [] in
            let mark : ℕ = length (g.events ++ e ∷ []) in
            let os : List PlainOutcome = (step limits h.state e).outcomes in
            let c' : E = welcomed one mark (last_reply os) c in
            let d' : F = welcomed two (length es) (last_reply os) d in
            subst (λ (t : State). Related Q (accept one limits (with_client g conn (welcomed one mark (last_reply (step limits t e).outcomes) c)) e)
            (serve two limits h conn d e)) (sym r.state)
            (accept-with g h (with_value nat_eq g.clients conn c') (with_value nat_eq h.clients conn d') e (all e) r.state
            (paired-with (S es) g.clients h.clients conn c' d' (later-kept e r)
            (welcomed-kept es mark (last_reply os) c d live (λ o is. last-of (CanPush es) os o (all e).1 is) (k.later h.events e c d s))))

        event-kept : (serial : ℕ) (made : Option PlainEvent)
            → Related Q (on_event one limits g conn c serial moment refused made) (on_event two limits h conn d serial moment refused made)
        event-kept serial None = break-kept serial
        event-kept serial (Some e) =
            both_choose (Related Q) (refused && event_takes_memory limits g.state e) (refused && event_takes_memory limits h.state e)
            (refuse one g conn c serial) (serve one limits g conn c e) (refuse two h conn d serial) (serve two limits h conn d e)
            (ap (λ (t : State). refused && event_takes_memory limits t e) r.state)
            (λ takes. put-kept conn (one.push c (accepted g) (refusal serial ENOMEM)) (two.push d (accepted h) (refusal serial ENOMEM)) r
            (refusals h.events (record { known = omega arith; cause = inr (inl (and_parts refused (event_takes_memory limits h.state e) takes).0) })
            serial ENOMEM (inl refl) (accepted g) c d (inr refl) s))
            (λ _. serve-kept e)

        request-kept : (request : PlainRequest)
            → Related Q (on_request one limits g conn c moment request refused) (on_request two limits h conn d moment request refused)
        request-kept request =
            subst (λ (p : Option ℕ). Related Q (on_event one limits g conn c request.serial moment refused (event_of p request moment))
            (on_request two limits h conn d moment request refused)) (sym (k.process h.events c d s))
            (event-kept request.serial (event_of (two.process d) request moment))

      -- what stands at the front of bytes
      pub frame-kept : (conn moment : ℕ) {g : Hub E} {h : Hub F} (c : E) (d : F) (next : List ℕ) → two.ended d ≡ false
          → ((e : PlainEvent) → Passes g h e) → (refused : Bool)
          → ((es : List PlainEvent) → MayRefuse two h (two.keeping d []) refused es → (serial : ℕ) (error : Errno) → IsRefusal error
          → CanPush es (refusal serial error))
          → Related Q g h → S h.events c d → (f : PlainFrame)
          → Related Q (comes_of one limits g conn moment c next f refused) (comes_of two limits h conn moment d next f refused)
      frame-kept conn moment {g} {h} c d next live all refused refusals r s f = by_frame f
        where
          goes : two.ended (two.keeping d []) ≡ false
          goes = k.goes_on d [] ∙ live

          bare : S h.events (one.keeping c []) (two.keeping d [])
          bare = k.keeps h.events c d [] s

          emptied : Related Q (with_client g conn (one.keeping c [])) (with_client h conn (two.keeping d []))
          emptied = put-kept conn (one.keeping c []) (two.keeping d []) r bare

          mine : (es : List PlainEvent) → MayRefuse two (with_client h conn (two.keeping d [])) (two.keeping d []) refused es → (serial : ℕ) (error : Errno)
              → IsRefusal error → CanPush es (refusal serial error)
          mine es may = refusals es (record { known = may.known; cause = may.cause })

          by_frame : (f : PlainFrame) → Related Q (comes_of one limits g conn moment c next f refused) (comes_of two limits h conn moment d next f refused)
          by_frame More =
              subst (λ (i : List ℕ). Related Q (with_client g conn (one.keeping c (i ++ next))) (comes_of two limits h conn moment d next More refused))
              (sym (k.input h.events c d s))
              (put-kept conn (one.keeping c (two.input d ++ next)) (two.keeping d (two.input d ++ next)) r (k.keeps h.events c d (two.input d ++ next) s))
          by_frame (Fault serial) = break-kept conn moment (one.keeping c []) (two.keeping d []) goes all refused mine emptied bare serial
          by_frame (Whole used request) = request-kept conn moment (one.keeping c []) (two.keeping d []) goes all refused mine emptied bare request

      -- ---- bytes

      module _ (a : Allows Q limits) where
        passes : {g : Hub E} {h : Hub F} → Related Q g h → (e : PlainEvent) → Passes g h e
        passes {g} {h} r e = (a.next g.events h.state h.events e r.known, a.replies g.events h.state h.events e r.known)

        pub accepts : {g : Hub E} {h : Hub F} (e : PlainEvent) → Related Q g h → Related Q (accept one limits g e) (accept two limits h e)
        accepts e r = accept-kept e (passes r e) r

        pub leaves : {g : Hub E} {h : Hub F} (p : Option ℕ) (moment : ℕ) → Related Q g h → Related Q (leave one limits g p moment) (leave two limits h p moment)
        leaves p moment r = leave-kept p moment (passes r) r

        module _ (conn moment : ℕ) where
          unless-kept : (g : Hub E) (h : Hub F) (act : E → Hub E) (does : F → Hub F) → Related Q g h
              → ((c : E) (d : F) → two.ended d ≡ false → S h.events c d → Related Q (act c) (does d))
              → Related Q (unless_ended one g conn act) (unless_ended two h conn does)
          unless-kept g h act does r each = by_value (value_at nat_eq g.clients conn) refl
            where
              by_value : (x : Option E) → value_at nat_eq g.clients conn ≡ x → Related Q (acted one g act x) (unless_ended two h conn does)
              by_value None is =
                  subst (λ (y : Option F). Related Q g (acted two h does y)) (sym (paired-none (S h.events) g.clients h.clients conn r.clients is)) r
              by_value (Some c) is =
                  let p = paired-at (S h.events) g.clients h.clients conn c r.clients is in
                  subst (λ (y : Option F). Related Q (acted one g act (Some c)) (acted two h does y)) (sym p.1.0)
                  (both_choose (Related Q) (one.ended c) (two.ended p.0) g (act c) h (does p.0) (k.ended h.events c p.0 p.1.1) (λ _. r)
                  (λ live. each c p.0 live p.1.1))

          requests-kept : (g : Hub E) (h : Hub F) (rs : List PlainRequest) (refused : List Bool) → Related Q g h
              → Related Q (on_requests one limits g conn moment rs refused) (on_requests two limits h conn moment rs refused)
          requests-kept g h [] refused r = r
          requests-kept g h (q ∷ qs) refused r =
              let act : E → Hub E = λ c. on_request one limits g conn c moment q (first_of refused) in
              let does : F → Hub F = λ d. on_request two limits h conn d moment q (first_of refused) in
              requests-kept (unless_ended one g conn act) (unless_ended two h conn does) qs (drop 1 refused)
              (unless-kept g h act does r (λ c d live s. request-kept conn moment c d live (passes r) (first_of refused) (λ es may. a.refusals es) r s q))

          ending-kept : (g : Hub E) (h : Hub F) (ending : Ending) → Related Q g h
              → Related Q (on_ending one limits g conn moment ending) (on_ending two limits h conn moment ending)
          ending-kept g h (Rest bytes) r =
              unless-kept g h (λ c. with_client g conn (one.keeping c bytes)) (λ d. with_client h conn (two.keeping d bytes)) r
              (λ c d live s. put-kept conn (one.keeping c bytes) (two.keeping d bytes) r (k.keeps h.events c d bytes s))
          ending-kept g h (Broken serial) r =
              unless-kept g h (λ c. break_off one limits g conn c serial moment) (λ d. break_off two limits h conn d serial moment) r
              (λ c d live s. break-kept conn moment c d live (passes r) false (λ es may. a.refusals es) r s serial)

          pub taken-kept : (g : Hub E) (h : Hub F) (bytes : List ℕ) (refused : List Bool) → Related Q g h
              → Related Q (take_in one limits g conn bytes moment refused) (take_in two limits h conn bytes moment refused)
          taken-kept g h bytes refused r =
              let g' : E → Hub E = λ c. with_client g conn (one.keeping c []) in
              let h' : F → Hub F = λ d. with_client h conn (two.keeping d []) in
              unless-kept g h (λ c. on_stream one limits (g' c) conn moment (stream_of (one.input c ++ bytes)) refused)
              (λ d. on_stream two limits (h' d) conn moment (stream_of (two.input d ++ bytes)) refused) r (λ c d live s.
              let st : Stream = stream_of (two.input d ++ bytes) in
              subst (λ (i : List ℕ). Related Q (on_stream one limits (g' c) conn moment (stream_of (i ++ bytes)) refused)
              (on_stream two limits (h' d) conn moment st refused)) (sym (k.input h.events c d s))
              (ending-kept (on_requests one limits (g' c) conn moment st.requests refused) (on_requests two limits (h' d) conn moment st.requests refused)
              st.ending (requests-kept (g' c) (h' d) st.requests refused (put-kept conn (one.keeping c []) (two.keeping d []) r (k.keeps h.events c d [] s)))))
