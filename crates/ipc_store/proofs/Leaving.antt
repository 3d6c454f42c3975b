-- What a stop leaves, what opens that are stopped make of it, and what an open finds.
use Rattle.std.proofs.Common.{◌≡◌, inl, inr, ⊎_elim, ℕ, ◌<◌, ◌^◌, List, [], ◌∷◌, ◌++◌, length, refl, sym, ap, subst, ◌∙◌, append-nil}
use Rattle.ipc_limits.specs.declared.limits.Limits.{Limits}
use Rattle.ipc_disk.specs.Growth.{HasGrown}
use Rattle.ipc_disk.specs.Medium.{Image, Medium, IsHonest}
use Rattle.ipc_state.specs.State.{State, restart}
use Rattle.ipc_state.proofs.CallerLemmas.{restart-twice}
use Rattle.ipc_engine.specs.Event.{PlainEvent, Restart}
use Rattle.ipc_engine.proofs.CallerLemmas.{run-parts}
use Rattle.ipc_image.specs.Format.{device_form}
use Rattle.ipc_image.proofs.CallerLemmas.{form-known}
use Rattle.ipc_store.specs.Histories.{History, Past, grown, past_of, reopened, state_after, Keeps, Takes, OpensOn, StandsForPrefix}
use Rattle.ipc_store.specs.Image.{StandsFor}
use Rattle.ipc_store.specs.Lives.{IsLeft, StoppedOpens, StandsAfter, ReopensTo, Rests, Found}
use Rattle.ipc_store.specs.Lives.StoppedOpens.{None, More, Larger}
use Rattle.ipc_store.specs.View.{StoreView}
use Rattle.ipc_store.specs.Relations.Matches.{StoreMatches, StandsForEither, OpensTo}
use Rattle.ipc_store.proofs.CallerLemmas.{StandsFor-one}
use Rattle.ipc_store.proofs.Growing.{StandsForIn-with_zeros}

-- a store that was opened on an image which stands for the state after these events, or for one that a restart makes the same
pub reopens : {D : Type 0} (medium : Medium) (store : StoreView D) (image : Image) (past : Past) (t : State)
    → length image < 2 ^ 32 → StandsFor past.limits t image → restart past.limits t ≡ restart past.limits (state_after past) → OpensOn image medium store
    → Keeps medium store (reopened past)
reopens medium store image past t fits stands same opens =
    let one = StandsFor-one store.machine.limits past.limits opens.found.0 t image fits opens.found.1 stands in
    let after : restart store.machine.limits opens.found.0 ≡ state_after (past_of store.machine.limits (reopened past)) =
    ap (λ (l : Limits). restart l opens.found.0) one.0 ∙ ap (restart past.limits) one.1 ∙ same
    ∙ ap (λ (l : Limits). restart l (state_after (record past { limits = l }))) (sym one.0)
    ∙ sym (run-parts store.machine.limits past.base past.events (Restart ∷ [])) in
    record { stands = inl (subst (λ (s : State). StoreMatches medium store s []) after opens.found.2); count = opens.confirmed }

-- what stands for the state after some events is opened after them
reopens-prefix : (past : Past) (others : List PlainEvent) (image : Image) → StandsForPrefix past others image → ReopensTo past others image
reopens-prefix past others image is = record {
  kept = is.kept;
  lost = is.lost;
  prefix = is.prefix;
  state = state_after (grown past is.kept);
  stands = is.stands;
  same = refl;
}

-- a call that is stopped
pub rests-left : {D : Type 0} (medium : D → Medium) (last next : StoreView D) (before : History) (events : List PlainEvent) (left : D)
    → Keeps (medium last.disk) last before → Takes medium last events next → IsLeft (medium last.disk) (medium next.disk) (medium left)
    → Rests (past_of last.machine.limits before) (before.waiting ++ events) (medium left)
rests-left medium last next before events left keeps takes is = record {
  honest = is.honest;
  left = λ image now. reopens-prefix (past_of last.machine.limits before) (before.waiting ++ events) image
      ((takes before keeps).crash.each image (is.images image now));
}

-- what stands for a state
pub rests-standing : (past : Past) (medium : Medium) → StandsAfter past medium → Rests past [] medium
rests-standing past medium is = record {
  honest = is.honest;
  left = λ image now. record {
    kept = [];
    lost = [];
    prefix = refl;
    state = state_after past;
    stands = is.stands image now;
    same = ap (λ (es : List PlainEvent). restart past.limits (state_after (record past { events = es }))) (sym (append-nil past.events));
  };
}

-- an image that a restart makes the same
reopens-either : (past : Past) (other : Limits) (others : List PlainEvent) (s : State) (was image : Image) → length was < 2 ^ 32
    → ReopensTo past others was → StandsFor other s was → StandsForEither other s (restart other s) image → ReopensTo past others image
reopens-either past other others s was image fits opens stands either =
    let one = StandsFor-one other past.limits s opens.state was fits stands opens.stands in
    let same : restart past.limits s ≡ restart past.limits (state_after (grown past opens.kept)) = ap (restart past.limits) one.1 ∙ opens.same in
    let as_is : (t : State) → StandsFor other t image → restart past.limits t ≡ restart past.limits (state_after (grown past opens.kept))
    → ReopensTo past others image =
    λ t is so. record {
      kept = opens.kept;
      lost = opens.lost;
      prefix = opens.prefix;
      state = t;
      stands = subst (λ (l : Limits). StandsFor l t image) one.0 is;
      same = so;
    } in
    ⊎_elim (λ is. as_is s is same) (λ is. as_is (restart other s) is
    (ap (λ (l : Limits). restart past.limits (restart l s)) one.0 ∙ restart-twice past.limits s ∙ same)) either

-- what an open may leave
reopens-opened : (past : Past) (others : List PlainEvent) (old : Medium) (image : Image) → length old.contents < 2 ^ 32
    → Rests past others old → OpensTo old image → ReopensTo past others image
reopens-opened past others old image fits rests (inl now) = rests.left image now
reopens-opened past others old image fits rests (inr (other, s, was, either)) =
    reopens-either past other others s old.contents image fits (rests.left old.contents rests.honest.reads) was either

-- what a growth may leave
reopens-grown : (past : Past) (others : List PlainEvent) (most : ℕ) (old : Medium) (image : Image) → Rests past others old
    → HasGrown most old image → ReopensTo past others image
reopens-grown past others most old image rests is =
    let opens = rests.left is.before is.now in
    subst (ReopensTo past others) (sym is.is) (record {
      kept = opens.kept;
      lost = opens.lost;
      prefix = opens.prefix;
      state = opens.state;
      stands = StandsForIn-with_zeros is.more (device_form past.limits) (form-known past.limits) past.limits opens.state is.before opens.stands;
      same = opens.same;
    })

-- opens that are stopped; the law is that of a disk's size
pub rests-still : {D : Type 0} (medium : D → Medium) → ((d : D) → IsHonest (medium d) → length (medium d).contents < 2 ^ 32)
    → (past : Past) (others : List PlainEvent) (left disk : D) → Rests past others (medium left) → StoppedOpens medium left disk
    → Rests past others (medium disk)
rests-still medium fits past others left disk rests None = rests
rests-still medium fits past others first left rests (More before after _ opens each is) =
    let so_far = rests-still medium fits past others first before rests opens in
    record {
      honest = is.honest;
      left = λ image now. reopens-opened past others (medium before) image (fits before so_far.honest) so_far
          (each.each image (is.images image now));
    }
rests-still medium fits past others first left rests (Larger before _ most opens honest grown) =
    let so_far = rests-still medium fits past others first before rests opens in
    record { honest = honest; left = λ image now. reopens-grown past others most (medium before) image so_far (grown image now) }

-- what an open finds
pub finds : {D : Type 0} (past : Past) (others : List PlainEvent) (image : Image) (medium : Medium) (store : StoreView D) → length image < 2 ^ 32
    → ReopensTo past others image → OpensOn image medium store → Found past others medium store
finds past others image medium store fits is opens =
    let one = StandsFor-one store.machine.limits past.limits opens.found.0 is.state image fits opens.found.1 is.stands in
    record {
      kept = is.kept;
      lost = is.lost;
      prefix = is.prefix;
      under = one.0;
      state = opens.found.2.waits.state ∙ ap (λ (l : Limits). restart l opens.found.0) one.0 ∙ ap (restart past.limits) one.1 ∙ is.same;
      keeps = reopens medium store image (grown past is.kept) is.state fits is.stands is.same opens;
    }
