-- The history of a device over lives of it.
use Rattle.std.proofs.Common.{◌≡◌, ◌++◌, ℕ, ◌+◌, Option, true, false, List, [], ◌∷◌, length, inl, inr, refl, sym, ap, subst, ◌∙◌, arith, append_assoc}
use Rattle.std.proofs.Common.{append-nil}
use Rattle.ipc_limits.specs.declared.limits.Limits.{Limits}
use Rattle.ipc_disk.specs.Medium.{Medium}
use Rattle.ipc_disk.specs.Since.{EachImageSince}
use Rattle.ipc_engine.specs.Event.{PlainEvent, Restart}
use Rattle.ipc_store.specs.Histories.{History, Past, accepted, acknowledged, full_past_of, grown, past_of, reopened, state_after}
use Rattle.ipc_store.specs.Histories.{IsRunning, Keeps, OpensOn, StandsForPrefix, Takes}
use Rattle.ipc_store.specs.Image.{StandsFor}
use Rattle.ipc_store.specs.Lives.{StandsAfter}
use Rattle.ipc_store.specs.View.{StoreView}
use Rattle.ipc_store.proofs.CallerLemmas.{StoreMatches-stands}
use Rattle.ipc_hub.specs.Clients.{Clients}
use Rattle.ipc_state.specs.State.{restart}
use Rattle.ipc_engine.specs.Step.{run}
use Rattle.ipc_engine.proofs.CallerLemmas.{restart-is, run-parts}
use Rattle.ipc_hub.specs.Replies.{IsAnswered}
use Rattle.ipc_script.specs.Answered.{Answers, TellsLines, TellsOf, joined_at}
use Rattle.ipc_script.specs.Answered.TellsLines.{None as none_told, Line as told_line}
use Rattle.ipc_script.specs.Answered.TellsOf.{Nothing}
use Rattle.ipc_script.specs.Line.{PlainLine, line_of}
use Rattle.ipc_script.proofs.Answered.{CallsKeepAnswers, answer-after, lines-more, said-text, tells-also}
use Rattle.ipc_script.specs.ByLines.{HasRunLines, KeepsLines}
use Rattle.ipc_script.specs.ByLines.HasRunLines.{None as none_run, Line, Again}
use Rattle.ipc_script.specs.Script.{IsYoung, Progress, Run, stopped, text_done}
use Rattle.ipc_script.specs.Stops.{ContinuesFrom, IsReopened, LivesOn}
use Rattle.ipc_script.specs.Stops.LivesOn.{One, Stop}
use Rattle.ipc_script.specs.Relations.Lasts.{Lasts}

no-events : (es : List PlainEvent) → length es ≡ 0 → es ≡ []
no-events [] none = refl
no-events (e ∷ es) none = absurd (omega arith)

module _ {D : Type 0} (medium : D → Medium) where
  -- the disk of a store that goes on, in which nothing waits
  rests-on : (store : StoreView D) (h : History) → IsRunning (medium store.disk) store h → store.waiting ≡ 0
      → StandsAfter (full_past_of store.machine.limits h) (medium store.disk)
  rests-on store h goes empty =
      let none : h.waiting ≡ [] = no-events h.waiting (sym goes.waits.count ∙ empty) in
      let past = past_of store.machine.limits h in
      let all : full_past_of store.machine.limits h ≡ past =
      ap (λ (es : List PlainEvent). record past { events = es }) (ap (λ (es : List PlainEvent). acknowledged h ++ es) none ∙ append-nil (acknowledged h)) in
      record {
        honest = goes.device.honest;
        stands = λ image now. subst (λ (p : Past). StandsFor store.machine.limits (state_after p) image) (sym all)
            (StoreMatches-stands (medium store.disk) store (state_after past) h.waiting goes image now);
      }

  rests : (store : StoreView D) (h : History) → Keeps (medium store.disk) store h → store.stopped ≡ false → store.waiting ≡ 0
      → StandsAfter (full_past_of store.machine.limits h) (medium store.disk)
  rests store h keeps running empty =
      elim keeps.stands [
        | inl goes ↦ rests-on store h goes empty
        | inr halted ↦ let bad : true ≡ false = sym halted.stopped ∙ running in cc
      ]

  -- no event of its history waits
  none-waits : (store : StoreView D) (h : History) → Keeps (medium store.disk) store h → store.stopped ≡ false → store.waiting ≡ 0 → h.waiting ≡ []
  none-waits store h keeps running empty =
      elim keeps.stands [
        | inl goes ↦ no-events h.waiting (sym goes.waits.count ∙ empty)
        | inr halted ↦ let bad : true ≡ false = sym halted.stopped ∙ running in cc
      ]

  begun : (store : StoreView D) (before : History) → Keeps (medium store.disk) store before → ContinuesFrom medium before store
  begun store before keeps = record {
    after = before;
    keeps = keeps;
    base = refl;
    more = [];
    accepts = sym (append-nil (accepted before));
    confirmed = [];
    acknowledges = sym (append-nil (acknowledged before));
    rests = rests store before keeps;
  }

  -- a life goes on
  goes-more : (before : History) (mid new : StoreView D) → ContinuesFrom medium before mid → Lasts medium mid new → ContinuesFrom medium before new
  goes-more before mid new so_far next =
      let was : History = so_far.after in
      let moves = next.1 was so_far.keeps in
      let now : History = moves.after in
      let others : List PlainEvent = moves.follows.more in
      record {
        after = now;
        keeps = moves.keeps;
        base = moves.follows.base ∙ so_far.base;
        more = so_far.more ++ next.0;
        accepts = moves.follows.accepts ∙ ap (λ (es : List PlainEvent). es ++ next.0) so_far.accepts
            ∙ append_assoc (accepted before) so_far.more next.0;
        confirmed = so_far.confirmed ++ others;
        acknowledges = ap (λ (es : List PlainEvent). es ++ now.confirmed) moves.follows.found
            ∙ (ap (λ (es : List PlainEvent). was.found ++ es) moves.follows.confirms
            ∙ (sym (append_assoc was.found was.confirmed others)
            ∙ (ap (λ (es : List PlainEvent). es ++ others) so_far.acknowledges
            ∙ append_assoc (acknowledged before) so_far.confirmed others)));
        rests = rests new now moves.keeps;
      }

  module _ (finds : (past : Past) (disk : D) (opened : StoreView D) → StandsAfter past (medium disk)
      → OpensOn (medium disk).contents (medium opened.disk) opened → Keeps (medium opened.disk) opened (reopened past)) where
    -- a life ends, and the next begins
    goes-again : (before : History) (closed opened : StoreView D) → ContinuesFrom medium before closed → IsReopened medium closed opened
        → ContinuesFrom medium before opened
    goes-again before closed opened so_far stop =
        let was : History = so_far.after in
        let one : List PlainEvent = Restart ∷ [] in
        let past = full_past_of closed.machine.limits was in
        let keeps : Keeps (medium opened.disk) opened (reopened past) =
        finds past closed.disk opened (so_far.rests stop.running stop.empty) stop.opens in
        record {
          after = reopened past;
          keeps = keeps;
          base = so_far.base;
          more = so_far.more ++ one;
          accepts = append-nil (accepted was ++ one) ∙ (ap (λ (es : List PlainEvent). es ++ one) so_far.accepts
              ∙ append_assoc (accepted before) so_far.more one);
          confirmed = so_far.confirmed ++ (was.waiting ++ one);
          acknowledges = append_assoc (acknowledged was) was.waiting one
              ∙ (ap (λ (es : List PlainEvent). es ++ (was.waiting ++ one)) so_far.acknowledges
              ∙ append_assoc (acknowledged before) so_far.confirmed (was.waiting ++ one));
          rests = rests opened (reopened past) keeps;
        }

    pub goes-on : (before : History) (old new : StoreView D) → Keeps (medium old.disk) old before → LivesOn medium old new
        → ContinuesFrom medium before new
    goes-on before old new keeps (One _ lasts) = goes-more before old new (begun old before keeps) lasts
    goes-on before old new keeps (Stop closed opened _ first stop lasts) =
        goes-more before opened new (goes-again before closed opened (goes-on before old closed keeps first) stop) lasts

    -- ---- line by line

    module _ (limits : Limits) (h : Clients) (old : StoreView D) where
      -- nothing waits after any of them
      committed-of : (number : ℕ) (lines : List (List ℕ)) (last : StoreView D) (r : Run) (text : List ℕ)
          → HasRunLines medium limits old h number lines last r text → old.waiting ≡ 0 → last.waiting ≡ 0
      committed-of _ _ _ _ _ none_run empty = empty
      committed-of _ _ next _ _ (Line number lines line last _ r text cut p before goes is took committed on) empty =
          committed (committed-of number lines last r text before empty)
      committed-of _ _ opened _ text (Again number lines line last closed _ r _ before is took state again) empty = again.opens.found.2.waits.count

      -- a young store goes on
      on-of : (number : ℕ) (lines : List (List ℕ)) (last : StoreView D) (r : Run) (text : List ℕ)
          → HasRunLines medium limits old h number lines last r text → IsYoung old → last.stopped ≡ false
      on-of _ _ _ _ _ none_run young = young.running
      on-of _ _ next _ _ (Line number lines line last _ r text cut p before goes is took committed on) young = on young
      on-of _ _ opened _ text (Again number lines line last closed _ r _ before is took state again) young = again.opens.found.2.running

      -- the history of the device, of which the events of the run are the last if those of the hub were
      module _ (before : History) (keeps : Keeps (medium old.disk) old before) where
        abbrev Says : List PlainEvent → ℕ → List (List ℕ) → Run → List ℕ → Type 0
        Says all number lines r text = TellsLines limits before.base all h number lines r text

        -- and if the hub was answered, so is the run, and its lines have told answers
        record Tells (all : List PlainEvent) (number : ℕ) (lines : List (List ℕ)) (r : Run) (text : List ℕ) (found : List PlainEvent) : Type 0 where
          others : List PlainEvent
          ends : all ≡ others ++ r.hub.events
          answers : CallsKeepAnswers limits → IsAnswered limits (run limits before.base found).state h
              → IsAnswered limits (run limits before.base others).state r.hub × Says all number lines r text

        abbrev Told : List PlainEvent → ℕ → List (List ℕ) → Run → List ℕ → Type 0
        Told all number lines r text = (found : List PlainEvent) → accepted before ≡ found ++ h.events → Tells all number lines r text found

        lines-on : (number : ℕ) (lines : List (List ℕ)) (last : StoreView D) (r : Run) (text : List ℕ)
            → HasRunLines medium limits old h number lines last r text
            → (here : ContinuesFrom medium before last) × Told (accepted here.after) number lines r text
        unfolding begun goes-more goes-again
        lines-on _ _ _ _ _ none_run =
            (begun old before keeps, λ found is. record { others = found; ends = is; answers = λ stay answered. (answered, none_told) })
        lines-on _ _ next _ _ (Line number lines line last _ r text cut p so_far goes is took committed on) =
            let was = lines-on number lines last r text so_far in
            let moves = took.takes was.0.after was.0.keeps in (
              goes-more before last next was.0 (took.events, took.takes),
              λ found all.
                  let told = was.1 found all in
                  let ends : accepted moves.after ≡ told.others ++ p.run.hub.events =
                  moves.follows.accepts ∙ ap (λ (es : List PlainEvent). es ++ took.events) told.ends
                  ∙ append_assoc told.others r.hub.events took.events ∙ ap (λ (es : List PlainEvent). told.others ++ es) (sym took.adds) in
                  record {
                    others = told.others;
                    ends = ends;
                    answers = λ stay answered.
                        let so = told.answers stay answered in
                        let said = said-text limits (run limits before.base told.others).state (stay (run limits before.base told.others).state)
                        number r (line_of line) cut p so.0 goes is in (
                          said.answered,
                          told_line number lines line r text cut p
                              (subst (λ (es : List PlainEvent). Says es number lines r text) (sym moves.follows.accepts)
                              (lines-more limits before.base (accepted was.0.after) took.events h number lines r text so.1)) is
                              (subst (λ (es : List PlainEvent). TellsOf (Answers limits before.base es p.run.hub) p.text) (sym ends)
                              (tells-also (Answers limits (run limits before.base told.others).state p.run.hub.events p.run.hub)
                              (Answers limits before.base (told.others ++ p.run.hub.events) p.run.hub)
                              (λ conn. answer-after limits before.base told.others p.run.hub.events (joined_at p.run.hub conn)) p.text said.tells)),
                        );
                  },
            )
        lines-on _ _ opened _ text (Again number lines line last closed _ r _ so_far is took state again) =
            let was = lines-on number lines last r text so_far in
            let ended = goes-more before last closed was.0 ([], took) in
            let ending : Progress = record { text = []; run = stopped limits r } in
            let all : List PlainEvent = accepted ended.after in
            let same : all ≡ accepted was.0.after = (took was.0.after was.0.keeps).follows.accepts ∙ append-nil (accepted was.0.after) in (
              goes-again before closed opened ended again,
              λ found is_found.
                  let told = was.1 found is_found in
                  record {
                    others = all;
                    ends = append-nil (all ++ Restart ∷ []);
                    answers = λ stay answered.
                        let so = told.answers stay answered in
                        let state : r.hub.state ≡ (run limits before.base all).state =
                        so.0.state ∙ sym (run-parts limits before.base told.others r.hub.events)
                        ∙ ap (λ (es : List PlainEvent). (run limits before.base es).state) (sym (same ∙ told.ends)) in (
                          record {
                            state = ap (restart limits) state ∙ sym (restart-is limits (run limits before.base all).state);
                            each = tt;
                          },
                          subst (λ (es : List PlainEvent). Says es (number + 1) (lines ++ line ∷ []) (stopped limits r) text)
                              (sym (append-nil (all ++ Restart ∷ [])))
                              (subst (Says (all ++ Restart ∷ []) (number + 1) (lines ++ line ∷ []) (stopped limits r)) (append-nil text)
                              (told_line number lines line r text [] ending
                              (subst (λ (es : List PlainEvent). Says (es ++ Restart ∷ []) number lines r text) (sym same)
                              (lines-more limits before.base (accepted was.0.after) (Restart ∷ []) h number lines r text so.1))
                              (ap (λ (o : Option PlainLine). text_done limits number r o []) is) Nothing)),
                        );
                  },
            )

      pub keeps-lines : (last next : StoreView D) (before : History) (number : ℕ) (lines : List (List ℕ)) (r : Run) (text : List ℕ)
          (events : List PlainEvent) → Keeps (medium old.disk) old before → old.waiting ≡ 0
          → HasRunLines medium limits old h number lines last r text → IsYoung old → Takes medium last events next
          → CallsKeepAnswers limits → KeepsLines medium limits before h number lines last r text events next
      keeps-lines last next before number lines r text events keeps empty runs young takes stay =
          let running = on-of number lines last r text runs young in
          let lines_on = lines-on before keeps number lines last r text runs in
          let here = lines_on.0 in
          let was : History = here.after in
          let none : was.waiting ≡ [] = none-waits last was here.keeps running (committed-of number lines last r text runs empty) in
          let all : past_of last.machine.limits was ≡ grown (full_past_of last.machine.limits before) here.more =
          let events = sym (ap (λ (es : List PlainEvent). acknowledged was ++ es) none ∙ append-nil (acknowledged was)) ∙ here.accepts in
          (λ i. record { limits = last.machine.limits; base = here.base i; events = events i }) in
          record {
            more = here.more;
            crash = subst (λ (p : Past). EachImageSince (medium last.disk) (medium next.disk) (StandsForPrefix p events)) all
                (subst (λ (es : List PlainEvent). EachImageSince (medium last.disk) (medium next.disk)
                (StandsForPrefix (past_of last.machine.limits was) (es ++ events))) none (takes was here.keeps).crash);
            named = λ found is.
                let told = lines_on.1 found is in
                record {
                  others = told.others;
                  ends = sym here.accepts ∙ told.ends;
                  answers = λ answered. subst (λ (es : List PlainEvent). TellsLines limits before.base es h number lines r text) here.accepts
                      (told.answers stay answered).1;
                };
          }
