-- Each frame in the text of a line is an answer to its connection.
use Rattle.std.proofs.Common.{◌≡◌, ℕ, ◌+◌, ◌&&◌, Bool, true, false, List, [], ◌∷◌, ◌++◌, length, take, drop, map, Option, Some, None, inl, inr, refl, sym}
use Rattle.std.proofs.Common.{ap, ◌∙◌, subst, append_assoc, append-nil}
use Rattle.std.specs.Prelude.{◌≢◌, All, Ok, Err, Result, nat_lt, not, if◌then◌else◌, option_map}
use Rattle.std.specs.List.{flat_map}
use Rattle.std.proofs.lemmas.List.Elements.{All-nil, All-head, All-tail}
use Rattle.ipc_limits.specs.declared.limits.Limits.{Limits}
use Rattle.ipc_base.specs.Table.{EachValue, keys_of}
use Rattle.ipc_base.proofs.CallerLemmas.{at-map, each-at, test_cases as test}
use Rattle.ipc_state.specs.State.{State}
use Rattle.ipc_engine.specs.Event.{PlainEvent}
use Rattle.ipc_engine.specs.Step.{step, run}
use Rattle.ipc_engine.proofs.CallerLemmas.{run-parts}
use Rattle.ipc_hub.specs.Clients.{Frame, Client, Clients, client_at, connect, feed, hangup, tick}
use Rattle.ipc_hub.specs.Lives.{ClientCall}
use Rattle.ipc_hub.specs.Lives.ClientCall.{Connects as to_connect, Ticks as to_tick, Feeds as to_feed, HangsUp as to_hang_up, Stays as to_stay}
use Rattle.ipc_hub.specs.Replies.{IsAnswer, IsAnswered, IsFor}
use Rattle.ipc_hub.specs.Replies.IsAnswer.{Reply, Refusal}
use Rattle.ipc_script.specs.declared.fault.ScriptFault.{ScriptFault}
use Rattle.ipc_script.specs.declared.fault.ScriptFault.TheVariants.{InUse, Unknown}
use Rattle.ipc_script.specs.Answered.{Answers, TellsLines, TellsOf, joined_at}
use Rattle.ipc_script.specs.Answered.TellsLines.{None as none_told, Line as told_line}
use Rattle.ipc_script.specs.Answered.TellsOf.{Nothing, OfFrame, OfEnd}
use Rattle.ipc_script.specs.Line.{PlainLine, Open, Data, End, Tick, Save, Stop}
use Rattle.ipc_script.specs.Script.{Run, Progress, Cut, conn_text, emptied, end_line, fed, fed_in_pieces, frame_line, is_open, line_done, opened, report}
use Rattle.ipc_script.specs.Script.{reported, text_done}
use Rattle.ipc_script.proofs.UnchangedHeads.{Joins, feed_joins, joined-of, joins-both}

-- ---- texts

pub tells-both : (Says : ℕ → Frame → Type 0) (xs ys : List ℕ) → TellsOf Says xs → TellsOf Says ys → TellsOf Says (xs ++ ys)
tells-both Says _ ys Nothing other = other
tells-both Says _ ys (OfFrame conn f rest says more) other =
    subst (TellsOf Says) (sym (append_assoc (frame_line conn f.bytes) rest ys)) (OfFrame conn f (rest ++ ys) says (tells-both Says rest ys more other))
tells-both Says _ ys (OfEnd conn rest more) other =
    subst (TellsOf Says) (sym (append_assoc (end_line conn) rest ys)) (OfEnd conn (rest ++ ys) (tells-both Says rest ys more other))

-- frames that say this say that, in the same bytes
pub tells-also : (Says Also : ℕ → Frame → Type 0) → ((conn : ℕ) (f : Frame) → Says conn f → (g : Frame) × (g.bytes ≡ f.bytes) × Also conn g)
    → (text : List ℕ) → TellsOf Says text → TellsOf Also text
tells-also Says Also also _ Nothing = Nothing
tells-also Says Also also _ (OfFrame conn f rest says more) =
    let g = also conn f says in
    subst (λ (bytes : List ℕ). TellsOf Also (frame_line conn bytes ++ rest)) g.1 (OfFrame conn g.0 rest g.2 (tells-also Says Also also rest more))
tells-also Says Also also _ (OfEnd conn rest more) = OfEnd conn rest (tells-also Says Also also rest more)

tells-frames : (Says : ℕ → Frame → Type 0) (conn : ℕ) (fs : List Frame) → All (Says conn) fs → TellsOf Says (flat_map (λ f. frame_line conn f.bytes) fs)
tells-frames Says conn [] each = Nothing
tells-frames Says conn (f ∷ fs) each =
    OfFrame conn f (flat_map (λ (g : Frame). frame_line conn g.bytes) fs) (All-head (Says conn) f fs each)
    (tells-frames Says conn fs (All-tail (Says conn) f fs each))

tells-end : (Says : ℕ → Frame → Type 0) (conn : ℕ) (told : Bool) → TellsOf Says (if told then end_line conn else [])
tells-end Says conn true = subst (TellsOf Says) (append-nil (end_line conn)) (OfEnd conn [] Nothing)
tells-end Says conn false = Nothing

-- ---- answers

-- an answer among events is one among these and more, and among these after others
pub answer-more : (limits : Limits) (base : State) (events more : List PlainEvent) (p : Option ℕ) (f : Frame) → IsAnswer limits base events p f
    → IsAnswer limits base (events ++ more) p f
answer-more limits base events more p f (Reply before after e front back o is gave mine mark bytes) =
    Reply before (after ++ more) e front back o
    (sym (append_assoc before (e ∷ after) more) ∙ ap (λ (es : List PlainEvent). es ++ more) is) gave mine mark bytes
answer-more limits base events more p f (Refusal serial e which bytes) = Refusal serial e which bytes

pub answer-after : (limits : Limits) (base : State) (others events : List PlainEvent) (p : Option ℕ) (f : Frame)
    → IsAnswer limits (run limits base others).state events p f → (g : Frame) × (g.bytes ≡ f.bytes) × IsAnswer limits base (others ++ events) p g
answer-after limits base others events p f (Reply before after e front back o is gave mine mark bytes) = (
  record { mark = length ((others ++ before) ++ e ∷ []); bytes = f.bytes },
  refl,
  Reply (others ++ before) after e front back o
      (append_assoc others before (e ∷ after) ∙ ap (λ (es : List PlainEvent). others ++ es) is)
      (gave ∙ ap (λ (s : State). (step limits s e).outcomes) (sym (run-parts limits base others before))) mine refl bytes,
)
answer-after limits base others events p f (Refusal serial e which bytes) = (f, refl, Refusal serial e which bytes)

for-joins : (p q : Option ℕ) (pid : ℕ) → IsFor p pid → Joins p q → IsFor q pid
for-joins p q pid (inr none) joins = inr none
for-joins p q pid (inl own) (inl none) = let never : None ≡ Some pid = sym none ∙ own in cc
for-joins p q pid (inl own) (inr same) = inl (same ∙ own)

-- and an answer to a connection is one after it has joined
answer-joins : (limits : Limits) (base : State) (events : List PlainEvent) (p q : Option ℕ) (f : Frame) → IsAnswer limits base events p f → Joins p q
    → IsAnswer limits base events q f
answer-joins limits base events p q f (Reply before after e front back o is gave mine mark bytes) joins =
    Reply before after e front back o is gave (for-joins p q o.pid mine joins) mark bytes
answer-joins limits base events p q f (Refusal serial e which bytes) joins = Refusal serial e which bytes

-- lines that have told answers among events have told answers among these and more
pub lines-more : (limits : Limits) (base : State) (events more : List PlainEvent) (h : Clients) (number : ℕ) (lines : List (List ℕ)) (r : Run)
    (text : List ℕ) → TellsLines limits base events h number lines r text → TellsLines limits base (events ++ more) h number lines r text
lines-more limits base events more h _ _ _ _ none_told = none_told
lines-more limits base events more h _ _ _ _ (told_line number lines line r text cut p before is tells) =
    told_line number lines line r text cut p (lines-more limits base events more h number lines r text before) is
    (tells-also (Answers limits base events p.run.hub) (Answers limits base (events ++ more) p.run.hub)
    (λ conn f says. (f, refl, answer-more limits base events more (joined_at p.run.hub conn) f says)) p.text tells)

-- a report takes frames alone
joined-reported : (r : Run) (conn : ℕ) → joined_at (reported r).hub conn ≡ joined_at r.hub conn
joined-reported r conn = ap joined-of (at-map emptied r.hub.clients conn) ∙ by_client (client_at r.hub conn)
  where
    by_client : (found : Option Client) → joined-of (option_map emptied found) ≡ joined-of found
    by_client None = refl
    by_client (Some c) = refl

-- the calls of the definitions keep a hub answered, and take no event back
abbrev pub CallsKeepAnswers : Limits → Type 0
CallsKeepAnswers limits =
    (base : State) (h next : Clients) → IsAnswered limits base h → ClientCall limits h next
    → IsAnswered limits base next × ((more : List PlainEvent) × (next.events ≡ h.events ++ more))

-- ---- a line

module _ (limits : Limits) (base : State)
    (keeps : (h next : Clients) → IsAnswered limits base h → ClientCall limits h next
    → IsAnswered limits base next × ((more : List PlainEvent) × (next.events ≡ h.events ++ more))) where
  abbrev Says : Clients → ℕ → Frame → Type 0
  Says h = Answers limits base h.events h

  -- a run that is answered after these events has told its text
  pub record IsSaid (from : List PlainEvent) (p : Progress) : Type 0 where
    pub answered : IsAnswered limits base p.run.hub
    pub tells : TellsOf (Says p.run.hub) p.text
    pub more : List PlainEvent
    pub grows : p.run.hub.events ≡ from ++ more

  said-conn : (r : Run) (conn : ℕ) → IsAnswered limits base r.hub → TellsOf (Says r.hub) (conn_text r conn)
  said-conn r conn answered = by_client (client_at r.hub conn) refl
    where
      by_client : (o : Option Client) → client_at r.hub conn ≡ o → TellsOf (Says r.hub) (conn_text r conn)
      by_client None is = rw is Nothing
      by_client (Some c) is =
          let says = each-at (λ (c : Client). All (IsAnswer limits base r.hub.events c.joined_as) c.frames) r.hub.clients conn c answered.each is in
          rw is (tells-both (Says r.hub) (flat_map (λ (f : Frame). frame_line conn f.bytes) c.frames) _
          (tells-frames (Says r.hub) conn c.frames
          (subst (λ (p : Option ℕ). All (IsAnswer limits base r.hub.events p) c.frames) (sym (ap joined-of is)) says))
          (tells-end (Says r.hub) conn (c.ended && not (r.told conn))))

  said-conns : (r : Run) (conns : List ℕ) → IsAnswered limits base r.hub → TellsOf (Says r.hub) (flat_map (conn_text r) conns)
  said-conns r [] answered = Nothing
  said-conns r (conn ∷ conns) answered =
      tells-both (Says r.hub) (conn_text r conn) (flat_map (conn_text r) conns) (said-conn r conn answered) (said-conns r conns answered)

  none-left : (es : List PlainEvent) (t : List (ℕ × Client))
      → EachValue (λ (c : Client). All (IsAnswer limits base es c.joined_as) c.frames) (map (λ e. (e.0, emptied e.1)) t)
  none-left es [] = tt
  none-left es (e ∷ t) = (All-nil (IsAnswer limits base es e.1.joined_as), none-left es t)

  said-report : (r : Run) (now : Clients) → IsAnswered limits base r.hub → ClientCall limits r.hub now → (told : ℕ → Bool)
      → IsSaid r.hub.events (report (record { hub = now; told = told }))
  said-report r now answered call told =
      let next = keeps r.hub now answered call in
      let later : Run = record { hub = now; told = told } in
      record {
        answered = record { state = next.0.state; each = none-left now.events now.clients };
        tells = tells-also (Says now) (Says (reported later).hub)
            (λ conn f says. (f, refl, subst (λ (p : Option ℕ). IsAnswer limits base now.events p f) (sym (joined-reported later conn)) says))
            (flat_map (conn_text later) (keys_of now.clients)) (said-conns later (keys_of now.clients) next.0);
        more = next.1.0;
        grows = next.1.1;
      }

  -- bytes are fed, and each connection stays as it has joined, if it has
  fed-joins : (moment conn : ℕ) (r : Run) (bytes : List ℕ) (refused : List Bool) (other : ℕ)
      → Joins (joined_at r.hub other) (joined_at (fed limits r moment conn bytes refused).run.hub other)
  fed-joins moment conn r bytes refused other =
      subst (Joins (joined_at r.hub other)) (sym (joined-reported (record r { hub = feed limits r.hub conn bytes moment refused }) other))
      (feed_joins limits conn moment r.hub bytes refused other)

  said-pieces : (moment conn : ℕ) (cut : Cut) (r : Run) (bytes : List ℕ) → IsAnswered limits base r.hub
      → IsSaid r.hub.events (fed_in_pieces limits r moment conn bytes cut)
      × ((other : ℕ) → Joins (joined_at r.hub other) (joined_at (fed_in_pieces limits r moment conn bytes cut).run.hub other))
  said-pieces moment conn [] r bytes answered = (
    said-report r (feed limits r.hub conn bytes moment []) answered (to_feed conn bytes moment []) r.told,
    fed-joins moment conn r bytes [],
  )
  said-pieces moment conn (p ∷ ps) r bytes answered =
      elim (test (nat_lt (p.more + 1) (length bytes))) [
        | inl t ↦
            let front = take (p.more + 1) bytes in
            let first = said-report r (feed limits r.hub conn front moment p.refused) answered (to_feed conn front moment p.refused) r.told in
            let now : Progress = fed limits r moment conn front p.refused in
            let later : Progress = fed_in_pieces limits now.run moment conn (drop (p.more + 1) bytes) ps in
            let both = said-pieces moment conn ps now.run (drop (p.more + 1) bytes) first.answered in
            let rest = both.0 in
            let still : TellsOf (Says later.run.hub) now.text =
            tells-also (Says now.run.hub) (Says later.run.hub) (λ other f says. (
              f,
              refl,
              answer-joins limits base later.run.hub.events (joined_at now.run.hub other) (joined_at later.run.hub other) f
                  (subst (λ (es : List PlainEvent). IsAnswer limits base es (joined_at now.run.hub other) f) (sym rest.grows)
                  (answer-more limits base now.run.hub.events rest.more (joined_at now.run.hub other) f says)) (both.1 other),
            )) now.text first.tells in
            rw t (
              record {
                answered = rest.answered;
                tells = tells-both (Says later.run.hub) now.text later.text still rest.tells;
                more = first.more ++ rest.more;
                grows = rest.grows ∙ ap (λ (es : List PlainEvent). es ++ rest.more) first.grows ∙ append_assoc r.hub.events first.more rest.more;
              },
              λ other. joins-both (joined_at r.hub other) (joined_at now.run.hub other) (joined_at later.run.hub other)
                  (fed-joins moment conn r front p.refused other) (both.1 other),
            )
        | inr f ↦
            rw f (
              said-report r (feed limits r.hub conn bytes moment p.refused) answered (to_feed conn bytes moment p.refused) r.told,
              fed-joins moment conn r bytes p.refused,
            )
      ]

  said-if : (from : List PlainEvent) (b : Bool) (one other : Result Progress ScriptFault) (p : Progress) → (one ≡ Ok p → IsSaid from p)
      → (other ≡ Ok p → IsSaid from p) → (if b then one else other) ≡ Ok p → IsSaid from p
  said-if from true one other p first second is = first is
  said-if from false one other p first second is = second is

  abbrev Done : Progress → Result Progress ScriptFault
  Done q = Ok q

  -- a line that is done came to this
  came : (from : List PlainEvent) (q p : Progress) → IsSaid from q → Done q ≡ Ok p → IsSaid from p
  came from q p said is = let same : q ≡ p = cc in subst (IsSaid from) same said

  said-line : (number : ℕ) (r : Run) (line : PlainLine) (cut : Cut) (p : Progress) → IsAnswered limits base r.hub → line ≢ Stop
      → line_done limits number r line cut ≡ Ok p → IsSaid r.hub.events p
  said-line number r (Open conn) cut p answered goes is =
      said-if r.hub.events (is_open r conn) (Err (InUse number)) (Ok (report (opened r conn))) p (λ e. cc)
      (came r.hub.events (report (opened r conn)) p
      (said-report r (connect r.hub conn) answered (to_connect conn) (opened r conn).told)) is
  said-line number r (Data moment conn bytes) cut p answered goes is =
      said-if r.hub.events (is_open r conn) (Ok (fed_in_pieces limits r moment conn bytes cut)) (Err (Unknown number)) p
      (came r.hub.events (fed_in_pieces limits r moment conn bytes cut) p (said-pieces moment conn cut r bytes answered).0) (λ e. cc) is
  said-line number r (End moment conn) cut p answered goes is =
      said-if r.hub.events (is_open r conn) (Ok (report (record r { hub = hangup limits r.hub conn moment }))) (Err (Unknown number)) p
      (came r.hub.events (report (record r { hub = hangup limits r.hub conn moment })) p
      (said-report r (hangup limits r.hub conn moment) answered (to_hang_up conn moment) r.told)) (λ e. cc) is
  said-line number r (Tick moment) cut p answered goes is =
      came r.hub.events (report (record r { hub = tick limits r.hub moment })) p
      (said-report r (tick limits r.hub moment) answered (to_tick moment) r.told) is
  said-line number r Save cut p answered goes is =
      came r.hub.events (report r) p (said-report r r.hub answered to_stay r.told) is
  said-line number r Stop cut p answered goes is = absurd (goes refl)

  pub said-text : (number : ℕ) (r : Run) (o : Option PlainLine) (cut : Cut) (p : Progress) → IsAnswered limits base r.hub → o ≢ Some Stop
      → text_done limits number r o cut ≡ Ok p → IsSaid r.hub.events p
  said-text number r None cut p answered goes is = cc
  said-text number r (Some line) cut p answered goes is = said-line number r line cut p answered (λ e. goes (ap (λ (l : PlainLine). Some l) e)) is
