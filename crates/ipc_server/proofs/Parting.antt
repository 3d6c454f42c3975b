-- The end of a turn: connections are hung up, that is made to last, and clients are sent what they may see.
use Rattle.std.proofs.Common.{◌≡◌, ℕ, false, List, [], ◌∷◌, ◌++◌, refl, ap, ◌∙◌, inl, inr, arith}
use Rattle.std.specs.Prelude.{nat_eq, not, ◌==◌, ◌&&◌}
use Rattle.std.proofs.lemmas.Bool.Decides.{nat_tests}
use Rattle.ipc_base.proofs.CallerLemmas.{test_cases}
use Rattle.ipc_disk.specs.Medium.{Image, Medium}
use Rattle.ipc_server.specs.Acts.{Act, fed, sent}
use Rattle.ipc_server.specs.Acts.Act.{HangsUp as to_hang_up, Releases}
use Rattle.ipc_server.specs.Runs.{RunsCalls}
use Rattle.ipc_server.specs.Rounds.{Answers, HangsUp, EndsRound}
use Rattle.ipc_server.specs.Rounds.HangsUp.{None as no_call, More as one_call}
use Rattle.ipc_hub.specs.View.{HubView, StoredHub, is_connected}
use Rattle.ipc_server.proofs.Going.{Makes, goes-both, made-both, made-goes, made-none, made-one, made-released, sends-made}
use Rattle.ipc_server.proofs.Telling.{fed-both, sent-both}

-- a number that is free already is freed by nothing
pub none-leaves : (hub : HubView) (conn : ℕ) → is_connected hub conn ≡ false → (other : ℕ)
    → is_connected hub other ≡ (not (other == conn) && is_connected hub other)
none-leaves hub conn free other =
    elim (test_cases (nat_eq other conn)) [
      | inl t ↦ let same : other ≡ conn = grind (arith, nat_tests) in rw t (rw same free)
      | inr f ↦ rw f refl
    ]

module _ {D : Type 0} (medium : D → Medium) (moment : ℕ) where
  -- nothing is fed then, and nothing is sent
  pub hangs-silent : (old new : StoredHub D) (acts : List Act) → HangsUp medium moment old new acts → (conn : ℕ)
      → (fed conn acts ≡ []) × (sent conn acts ≡ [])
  hangs-silent old _ _ no_call conn = (refl, refl)
  hangs-silent old new _ (one_call last _ acts other before serves) conn =
      let so_far = hangs-silent old last acts before conn in (
        fed-both conn acts (to_hang_up other moment ∷ []) ∙ ap (λ (bytes : List ℕ). bytes ++ []) so_far.0,
        sent-both conn acts (to_hang_up other moment ∷ []) ∙ ap (λ (bytes : List ℕ). bytes ++ []) so_far.1,
      )

  module _ (law : (d : D) (image : Image) → (medium d).images_since (medium d).moment image → (medium d).images_now image) where
    -- these are calls on a hub
    pub hangs-made : (old new : StoredHub D) (acts : List Act) → HangsUp medium moment old new acts → Makes medium moment old new acts
    hangs-made old _ _ no_call = made-none medium law moment old
    hangs-made old new _ (one_call last _ acts conn before serves) =
        made-both medium moment old last new acts (to_hang_up conn moment ∷ []) (hangs-made old last acts before)
        (made-one medium moment last new (to_hang_up conn moment) refl tt (λ h. refl) serves)

    pub answers-made : (old new : StoredHub D) (told : List Act) → Answers medium old new told → Makes medium moment old new (Releases ∷ told)
    answers-made old new told answers =
        made-both medium moment old answers.lasting new (Releases ∷ []) told
        (made-released medium moment old answers.lasting answers.releases.same answers.releases.takes)
        (sends-made medium law moment answers.lasting new told answers.sends)

    pub hangs-goes : (old new : StoredHub D) (acts : List Act) → HangsUp medium moment old new acts → RunsCalls medium moment old new
    hangs-goes old new acts hangs = made-goes medium moment old new acts (hangs-made old new acts hangs)

    -- after others
    pub goes-answered : (old heard new : StoredHub D) (told : List Act) → RunsCalls medium moment old heard → Answers medium heard new told
        → RunsCalls medium moment old new
    goes-answered old heard new told goes answers =
        goes-both medium moment old heard new goes (made-goes medium moment heard new (Releases ∷ told) (answers-made heard new told answers))

    pub ends-made : (old new : StoredHub D) (ends : EndsRound medium moment old new) → Makes medium moment old new (ends.hung_up ++ Releases ∷ ends.told)
    ends-made old new ends =
        made-both medium moment old ends.parted new ends.hung_up (Releases ∷ ends.told) (hangs-made old ends.parted ends.hung_up ends.hangs_up)
        (answers-made ends.parted new ends.told ends.answers)

    pub parts-goes : (old new : StoredHub D) → EndsRound medium moment old new → RunsCalls medium moment old new
    parts-goes old new ends = made-goes medium moment old new (ends.hung_up ++ Releases ∷ ends.told) (ends-made old new ends)
