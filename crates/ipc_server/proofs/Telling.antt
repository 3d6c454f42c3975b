-- The bytes that calls feed for a connection, and those that they send its client.
use Rattle.std.proofs.Common.{◌≡◌, ◌≢◌, ℕ, List, [], ◌∷◌, ◌++◌, All, refl, ap, ◌∙◌}
use Rattle.std.proofs.lemmas.Grind.{flat_map-append}
use Rattle.std.proofs.lemmas.List.Elements.{All-cons, All-nil, All-push}
use Rattle.ipc_base.proofs.CallerLemmas.{other_key, same_key}
use Rattle.ipc_disk.specs.Medium.{Medium}
use Rattle.ipc_hub.specs.View.{StoredHub}
use Rattle.ipc_server.specs.Acts.{Act, Piece, Spares, all_of, fed, fed_by, feeds, joined, sends, sent, sent_by}
use Rattle.ipc_server.specs.Acts.Act.{Consumes, Feeds, Releases}
use Rattle.ipc_server.specs.Rounds.{Answers}
use Rattle.ipc_server.specs.Runs.{Sends}
use Rattle.ipc_server.specs.Runs.Sends.{None as no_send, More as one_send}

pub fed-both : (conn : ℕ) (acts others : List Act) → fed conn (acts ++ others) ≡ fed conn acts ++ fed conn others
fed-both conn acts others = flat_map-append (fed_by conn) acts others

pub sent-both : (conn : ℕ) (acts others : List Act) → sent conn (acts ++ others) ≡ sent conn acts ++ sent conn others
sent-both conn acts others = flat_map-append (sent_by conn) acts others

-- ---- pieces of one client

pub fed-own : (conn moment : ℕ) (pieces : List Piece) → fed conn (feeds conn moment pieces) ≡ all_of pieces
fed-own conn moment [] = refl
fed-own conn moment (p ∷ ps) = rw (same_key conn) (ap (λ (bytes : List ℕ). p.bytes ++ bytes) (fed-own conn moment ps))

pub fed-others : (conn other moment : ℕ) (pieces : List Piece) → conn ≢ other → fed other (feeds conn moment pieces) ≡ []
fed-others conn other moment [] apart = refl
fed-others conn other moment (p ∷ ps) apart = rw (other_key conn other apart) (fed-others conn other moment ps apart)

pub feeds-silent : (conn other moment : ℕ) (pieces : List Piece) → sent other (feeds conn moment pieces) ≡ []
feeds-silent conn other moment [] = refl
feeds-silent conn other moment (p ∷ ps) = feeds-silent conn other moment ps

pub feeds-spare : (conn other moment : ℕ) (pieces : List Piece) → All (Spares other) (feeds conn moment pieces)
feeds-spare conn other moment [] = All-nil (Spares other)
feeds-spare conn other moment (p ∷ ps) =
    All-cons (Spares other) (Feeds conn p.bytes moment p.refused) (feeds conn moment ps) tt (feeds-spare conn other moment ps)

pub sent-own : (conn : ℕ) (pieces : List (List ℕ)) → sent conn (sends conn pieces) ≡ joined pieces
sent-own conn [] = refl
sent-own conn (p ∷ ps) = rw (same_key conn) (ap (λ (bytes : List ℕ). p ++ bytes) (sent-own conn ps))

pub sent-others : (conn other : ℕ) (pieces : List (List ℕ)) → conn ≢ other → sent other (sends conn pieces) ≡ []
sent-others conn other [] apart = refl
sent-others conn other (p ∷ ps) apart = rw (other_key conn other apart) (sent-others conn other ps apart)

-- ---- answers feed nothing, and leave each connection

sends-quiet : {D : Type 0} (old new : StoredHub D) (told : List Act) → Sends old new told → (conn : ℕ) → (fed conn told ≡ []) × All (Spares conn) told
sends-quiet old _ _ no_send conn = (refl, All-nil (Spares conn))
sends-quiet old new _ (one_send last _ told other bytes before begins does store) conn =
    let so_far = sends-quiet old last told before conn in (
      fed-both conn told (Consumes other bytes ∷ []) ∙ ap (λ (bytes : List ℕ). bytes ++ []) so_far.0,
      All-push (Spares conn) told (Consumes other bytes) so_far.1 tt,
    )

pub answers-quiet : {D : Type 0} (medium : D → Medium) (old new : StoredHub D) (told : List Act) → Answers medium old new told → (conn : ℕ)
    → (fed conn (Releases ∷ told) ≡ []) × All (Spares conn) (Releases ∷ told)
answers-quiet medium old new told answers conn =
    let quiet = sends-quiet answers.lasting new told answers.sends conn in
    (quiet.0, All-cons (Spares conn) Releases told tt quiet.1)
