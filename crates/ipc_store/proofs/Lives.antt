-- What the calls on a store do to its history.
use Rattle.std.proofs.Common.{◌≡◌, inl, inr, ⊎_elim, ◌+◌, Bool, true, false, List, [], ◌∷◌, ◌++◌, refl, sym, ap, subst, ◌∙◌, append-nil, append_assoc, arith}
use Rattle.std.specs.Prelude.{⊤, Result, Ok, Err, OnOk, OnErr}
use Rattle.std.proofs.lemmas.List.{length-append, append_cancel_left}
use Rattle.ipc_limits.specs.declared.limits.Limits.{Limits}
use Rattle.ipc_checkpoint.specs.Meanwhile.{EachLater}
use Rattle.ipc_disk.specs.Medium.{Image, Medium, IsHonest}
use Rattle.ipc_disk.specs.Since.{EachImageSince}
use Rattle.ipc_disk.proofs.CallerLemmas.{EachImageSince-start, EachImageSince-join, EachImageSince-weaken, EachImageSince-now}
use Rattle.ipc_state.specs.State.{State}
use Rattle.ipc_engine.specs.Event.{PlainEvent}
use Rattle.ipc_engine.specs.Step.{run}
use Rattle.ipc_engine.proofs.CallerLemmas.{run-parts}
use Rattle.ipc_store.specs.Histories.{History, Past, acknowledged, accepted, past_of, state_after, StandsForPrefix, IsRunning, Keeps, Follows, Takes}
use Rattle.ipc_heap.proofs.CallerLemmas.{EachLater-join, EachLater-start}
use Rattle.ipc_store.specs.Image.{StandsFor}
use Rattle.ipc_store.specs.Meanwhile.{GoesOn, StaysReadable}
use Rattle.ipc_store.specs.View.{StoreView, IsStopped}
use Rattle.ipc_store.specs.Relations.Matches.{StoreMatches, StandsForEither}
use Rattle.ipc_store.proofs.Committing.{stands_now}
use Rattle.ipc_store.proofs.Meanwhile.{goes-on-then, same-refl}

-- nothing was accepted, and nothing confirmed
follows-none : (before : History) → Follows before [] before
follows-none before =
    record { base = refl; found = refl; accepts = sym (append-nil (accepted before)); more = []; confirms = sym (append-nil before.confirmed) }

-- one event waits more
follows-one : (before : History) (e : PlainEvent) → Follows before (e ∷ []) (record before { waiting = before.waiting ++ e ∷ [] })
follows-one before e = record {
  base = refl;
  found = refl;
  accepts = sym (append_assoc (acknowledged before) before.waiting (e ∷ []));
  more = [];
  confirms = sym (append-nil before.confirmed);
}

-- all that waited is confirmed
abbrev confirmed-all : History → History
confirmed-all before = record before { confirmed = before.confirmed ++ before.waiting; waiting = [] }

acknowledged-all : (before : History) → acknowledged (confirmed-all before) ≡ accepted before
acknowledged-all before = sym (append_assoc before.found before.confirmed before.waiting)

follows-all : (before : History) → Follows before [] (confirmed-all before)
follows-all before = record {
  base = refl;
  found = refl;
  accepts = ap (λ (es : List PlainEvent). es ++ []) (acknowledged-all before);
  more = before.waiting;
  confirms = refl;
}

module _ (past : Past) where
  -- what stands for the state after the acknowledged events keeps none of the others
  keeps-none : (others : List PlainEvent) (image : Image) → StandsFor past.limits (state_after past) image → StandsForPrefix past others image
  keeps-none others image stands = record {
    kept = [];
    lost = others;
    prefix = refl;
    stands = subst (λ (es : List PlainEvent). StandsFor past.limits (state_after (record past { events = es })) image) (sym (append-nil past.events)) stands;
  }

  -- a prefix of some events is one of these and more
  keeps-more : (others more : List PlainEvent) (image : Image) → StandsForPrefix past others image → StandsForPrefix past (others ++ more) image
  keeps-more others more image is = record {
    kept = is.kept;
    lost = is.lost ++ more;
    prefix = sym (append_assoc is.kept is.lost more) ∙ ap (λ (es : List PlainEvent). es ++ more) is.prefix;
    stands = is.stands;
  }

  -- what stands for either state of a commit keeps none, or all that waited
  keeps-either : (waiting : List PlainEvent) (image : Image)
      → StandsForEither past.limits (state_after past) (run past.limits (state_after past) waiting).state image → StandsForPrefix past waiting image
  keeps-either waiting image (inl stands) = keeps-none waiting image stands
  keeps-either waiting image (inr stands) = record {
    kept = waiting;
    lost = [];
    prefix = append-nil waiting;
    stands = subst (λ (s : State). StandsFor past.limits s image) (sym (run-parts past.limits past.base past.events waiting)) stands;
  }

-- a store that goes on has not stopped
going : {D : Type 0} (medium : Medium) (store : StoreView D) (h : History) → Keeps medium store h → store.stopped ≡ false → IsRunning medium store h
going medium store h keeps is = ⊎_elim (λ goes. goes) (λ halted. absurd (both store.stopped halted.stopped is)) keeps.stands
  where
    both : (b : Bool) → b ≡ true → b ≡ false → ⊥
    both b is-so is-not = cc

-- the disk of a store with a history is honest
keeps-honest : {D : Type 0} (medium : Medium) (store : StoreView D) (h : History) → Keeps medium store h → IsHonest medium
keeps-honest medium store h keeps = ⊎_elim (λ goes. goes.device.honest) (λ halted. halted.honest) keeps.stands

module _ {D : Type 0} (medium : D → Medium) (law : (d : D) (image : Image) → (medium d).images_since (medium d).moment image → (medium d).images_now image)
    (old : StoreView D) where
  -- each image now keeps what was acknowledged
  now-keeps : (h : History) → Keeps (medium old.disk) old h → (others : List PlainEvent) (image : Image) → (medium old.disk).images_now image
      → StandsForPrefix (past_of old.machine.limits h) (h.waiting ++ others) image
  now-keeps h keeps others image now =
      ⊎_elim
      (λ goes. keeps-none (past_of old.machine.limits h) (h.waiting ++ others) image
      (stands_now (medium old.disk) old (state_after (past_of old.machine.limits h)) h.waiting goes image now))
      (λ halted. keeps-more (past_of old.machine.limits h) h.waiting others image (halted.left image now)) keeps.stands

  -- nothing is written
  stays-later : EachLater GoesOn (medium old.disk) (medium old.disk)
  stays-later = EachLater-start GoesOn (medium old.disk) (law old.disk) (λ image. inl (same-refl image))

  -- nothing has changed
  pub takes-none : Takes medium old [] old
  takes-none before keeps = record {
    crash = EachImageSince-start (medium old.disk) (StandsForPrefix (past_of old.machine.limits before) (before.waiting ++ [])) (law old.disk)
        (now-keeps before keeps []);
    later = stays-later;
    limits = refl;
    after = before;
    follows = follows-none before;
    keeps = keeps;
  }

  -- an event was accepted
  pub takes-one : (new : StoreView D) (e : PlainEvent) → old.stopped ≡ false → new.disk ≡ old.disk → new.machine.limits ≡ old.machine.limits
      → new.confirmed ≡ old.confirmed
      → ((base : State) (pending : List PlainEvent) → StoreMatches (medium old.disk) old base pending
      → StoreMatches (medium new.disk) new base (pending ++ e ∷ []))
      → Takes medium old (e ∷ []) new
  takes-one new e going-on disk limits confirmed matches before keeps =
      let goes = going (medium old.disk) old before keeps going-on in
      let after : History = record before { waiting = before.waiting ++ e ∷ [] } in
      record {
        crash = subst (λ (d : D). EachImageSince (medium old.disk) (medium d)
            (StandsForPrefix (past_of old.machine.limits before) (before.waiting ++ e ∷ []))) (sym disk)
            (EachImageSince-start (medium old.disk) (StandsForPrefix (past_of old.machine.limits before) (before.waiting ++ e ∷ []))
            (law old.disk) (now-keeps before keeps (e ∷ [])));
        later = subst (λ (d : D). EachLater GoesOn (medium old.disk) (medium d)) (sym disk) stays-later;
        limits = limits;
        after = after;
        follows = follows-one before e;
        keeps = record {
          stands = inl (subst (λ (l : Limits). StoreMatches (medium new.disk) new (state_after (past_of l before)) (before.waiting ++ e ∷ []))
              (sym limits) (matches (state_after (past_of old.machine.limits before)) before.waiting goes));
          count = confirmed ∙ keeps.count;
        };
      }

  module _ (new : StoreView D) (going-on : old.stopped ≡ false) (limits : new.machine.limits ≡ old.machine.limits)
      (moments : (base : State) (pending : List PlainEvent) → StoreMatches (medium old.disk) old base pending
      → EachImageSince (medium old.disk) (medium new.disk) (StandsForEither old.machine.limits base (run old.machine.limits base pending).state)) where
    since : (before : History) → IsRunning (medium old.disk) old before
        → EachImageSince (medium old.disk) (medium new.disk) (StandsForPrefix (past_of old.machine.limits before) before.waiting)
    since before goes =
        let base : State = state_after (past_of old.machine.limits before) in
        EachImageSince-weaken (medium old.disk) (medium new.disk)
        (StandsForEither old.machine.limits base (run old.machine.limits base before.waiting).state)
        (StandsForPrefix (past_of old.machine.limits before) before.waiting) (moments base before.waiting goes)
        (keeps-either (past_of old.machine.limits before) before.waiting)

    crash-since : (before : History) → IsRunning (medium old.disk) old before
        → EachImageSince (medium old.disk) (medium new.disk) (StandsForPrefix (past_of old.machine.limits before) (before.waiting ++ []))
    crash-since before goes =
        EachImageSince-weaken (medium old.disk) (medium new.disk) (StandsForPrefix (past_of old.machine.limits before) before.waiting)
        (StandsForPrefix (past_of old.machine.limits before) (before.waiting ++ [])) (since before goes)
        (keeps-more (past_of old.machine.limits before) before.waiting [])

    -- a commit
    pub takes-all : new.confirmed ≡ old.confirmed + old.waiting
        → ((base : State) (pending : List PlainEvent) → StoreMatches (medium old.disk) old base pending
        → StoreMatches (medium new.disk) new (run old.machine.limits base pending).state [])
        → StaysReadable medium old new.disk → Takes medium old [] new
    takes-all confirmed matches readable before keeps =
        let goes = going (medium old.disk) old before keeps going-on in
        let base : State = state_after (past_of old.machine.limits before) in
        let state : (run old.machine.limits base before.waiting).state ≡ state_after (past_of old.machine.limits (confirmed-all before)) =
        sym (run-parts old.machine.limits before.base (acknowledged before) before.waiting)
        ∙ ap (λ (es : List PlainEvent). (run old.machine.limits before.base es).state) (sym (acknowledged-all before)) in
        record {
          crash = crash-since before goes;
          later = readable.goes_on base before.waiting goes;
          limits = limits;
          after = confirmed-all before;
          follows = follows-all before;
          keeps = record {
            stands = inl (subst (λ (l : Limits). StoreMatches (medium new.disk) new (state_after (past_of l (confirmed-all before))) []) (sym limits)
                (subst (λ (s : State). StoreMatches (medium new.disk) new s []) state (matches base before.waiting goes)));
            count = omega (arith, confirmed, keeps.count, goes.waits.count, length-append before.confirmed before.waiting);
          };
        }

    -- a commit that failed
    pub takes-halted : new.confirmed ≡ old.confirmed → IsStopped new → (IsHonest (medium old.disk) → IsHonest (medium new.disk))
        → StaysReadable medium old new.disk → Takes medium old [] new
    takes-halted confirmed stopped honest readable before keeps =
        let goes = going (medium old.disk) old before keeps going-on in
        record {
          crash = crash-since before goes;
          later = readable.goes_on (state_after (past_of old.machine.limits before)) before.waiting goes;
          limits = limits;
          after = before;
          follows = follows-none before;
          keeps = record {
            stands = inr (record {
              stopped = stopped;
              honest = honest goes.device.honest;
              left = λ image now. subst (λ (l : Limits). StandsForPrefix (past_of l before) before.waiting image) (sym limits)
                  (EachImageSince-now (medium old.disk) (medium new.disk) (StandsForPrefix (past_of old.machine.limits before) before.waiting)
                  (since before goes) (honest goes.device.honest) image now);
            });
            count = confirmed ∙ keeps.count;
          };
        }

    -- either of the two
    pub takes-either : {E : Type 0} (result : Result ⊤ E) → OnOk result (new.confirmed ≡ old.confirmed + old.waiting)
        → OnOk result ((base : State) (pending : List PlainEvent) → StoreMatches (medium old.disk) old base pending
        → StoreMatches (medium new.disk) new (run old.machine.limits base pending).state [])
        → OnErr result (new.confirmed ≡ old.confirmed) → OnErr result (IsStopped new)
        → (IsHonest (medium old.disk) → IsHonest (medium new.disk)) → StaysReadable medium old new.disk → Takes medium old [] new
    takes-either (Ok _) confirmed matches none stopped honest readable = takes-all confirmed matches readable
    takes-either (Err _) confirmed matches none stopped honest readable = takes-halted none stopped honest readable

    -- what is left after it
    pub leaves-either : (IsHonest (medium old.disk) → IsHonest (medium new.disk)) → (base : State) (pending : List PlainEvent) (image : Image)
        → StoreMatches (medium old.disk) old base pending → (medium new.disk).images_now image
        → StandsForEither old.machine.limits base (run old.machine.limits base pending).state image
    leaves-either honest base pending image at now =
        EachImageSince-now (medium old.disk) (medium new.disk) (StandsForEither old.machine.limits base (run old.machine.limits base pending).state)
        (moments base pending at) (honest at.device.honest) image now

-- ---- two calls, one after the other

module _ (before mid : History) (events others : List PlainEvent) (first : Follows before events mid) where
  -- what is acknowledged then was acknowledged before, or was confirmed since
  acknowledged-more : acknowledged mid ≡ acknowledged before ++ first.more
  acknowledged-more =
      ap (λ (es : List PlainEvent). es ++ mid.confirmed) first.found ∙ ap (λ (es : List PlainEvent). before.found ++ es) first.confirms
      ∙ sym (append_assoc before.found before.confirmed first.more)

  -- what was confirmed since, and what waits then, are what waited before, and the events
  waiting-more : first.more ++ mid.waiting ≡ before.waiting ++ events
  waiting-more =
      append_cancel_left (acknowledged before) (first.more ++ mid.waiting) (before.waiting ++ events)
      (sym (append_assoc (acknowledged before) first.more mid.waiting) ∙ ap (λ (es : List PlainEvent). es ++ mid.waiting) (sym acknowledged-more)
      ∙ first.accepts ∙ append_assoc (acknowledged before) before.waiting events)

  -- so what keeps some of the events then keeps some of all of them
  keeps-since : (limits : Limits) (image : Image) → StandsForPrefix (past_of limits mid) (mid.waiting ++ others) image
      → StandsForPrefix (past_of limits before) (before.waiting ++ (events ++ others)) image
  keeps-since limits image is =
      let again : acknowledged mid ++ is.kept ≡ acknowledged before ++ (first.more ++ is.kept) =
      ap (λ (es : List PlainEvent). es ++ is.kept) acknowledged-more ∙ append_assoc (acknowledged before) first.more is.kept in
      record {
        kept = first.more ++ is.kept;
        lost = is.lost;
        prefix =
            append_assoc first.more is.kept is.lost ∙ ap (λ (es : List PlainEvent). first.more ++ es) is.prefix
            ∙ sym (append_assoc first.more mid.waiting others) ∙ ap (λ (es : List PlainEvent). es ++ others) waiting-more
            ∙ append_assoc before.waiting events others;
        stands = subst (λ (p : Past). StandsFor limits (state_after p) image)
            (λ i. record { limits = limits; base = first.base i; events = again i }) is.stands;
      }

  -- the history goes on over both
  follows-both : (after : History) → Follows mid others after → Follows before (events ++ others) after
  follows-both after next = record {
    base = next.base ∙ first.base;
    found = next.found ∙ first.found;
    accepts = next.accepts ∙ ap (λ (es : List PlainEvent). es ++ others) first.accepts ∙ append_assoc (accepted before) events others;
    more = first.more ++ next.more;
    confirms =
        next.confirms ∙ ap (λ (es : List PlainEvent). es ++ next.more) first.confirms
        ∙ append_assoc before.confirmed first.more next.more;
  }

-- they accept the events of both
pub takes-both : {D : Type 0} (medium : D → Medium) (first mid last : StoreView D) (events others : List PlainEvent)
    → Takes medium first events mid → Takes medium mid others last → Takes medium first (events ++ others) last
takes-both medium first mid last events others takes then before keeps =
    let one = takes before keeps in
    let two = then one.after one.keeps in
    let limits : Limits = first.machine.limits in
    let past : Past = past_of limits before in
    let P : Image → Type 0 = StandsForPrefix past (before.waiting ++ (events ++ others)) in
    let front : (image : Image) → StandsForPrefix past (before.waiting ++ events) image → P image =
    λ image is. subst (λ (es : List PlainEvent). StandsForPrefix past es image) (append_assoc before.waiting events others)
    (keeps-more past (before.waiting ++ events) others image is) in
    let back : (image : Image) → StandsForPrefix (past_of mid.machine.limits one.after) (one.after.waiting ++ others) image → P image =
    λ image is. keeps-since before one.after events others one.follows limits image
    (subst (λ (l : Limits). StandsForPrefix (past_of l one.after) (one.after.waiting ++ others) image) one.limits is) in
    record {
      crash = EachImageSince-join (medium first.disk) (medium mid.disk) (medium last.disk) P
          (EachImageSince-weaken (medium first.disk) (medium mid.disk) (StandsForPrefix past (before.waiting ++ events)) P one.crash front)
          (EachImageSince-weaken (medium mid.disk) (medium last.disk)
          (StandsForPrefix (past_of mid.machine.limits one.after) (one.after.waiting ++ others)) P two.crash back);
      later = EachLater-join GoesOn GoesOn (medium first.disk) (medium mid.disk) (medium last.disk) (λ a b is. is) goes-on-then
          (keeps-honest (medium mid.disk) mid one.after one.keeps) one.later two.later;
      limits = two.limits ∙ one.limits;
      after = two.after;
      follows = follows-both before one.after events others one.follows two.after two.follows;
      keeps = two.keeps;
    }
