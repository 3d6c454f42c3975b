use Rattle.std.proofs.Common.{◌≡◌, ℕ, Bool, true, false, cond, List, [], ◌∷◌, Option, Some, None, refl, sym, subst, ap, ◌∙◌}
use Rattle.std.specs.Prelude.{All, not, ◌||◌, nat_eq, filter, option_map}
use Rattle.std.proofs.lemmas.List.Elements.{All-nil, All-cons}
use Rattle.ipc_base.specs.Table.{value_at}
use Rattle.ipc_base.proofs.CallerLemmas.{at-map}
use Rattle.std.specs.Str.{bytes_eq}
use Rattle.ipc_keys.specs.Names.{is_none}
use Rattle.ipc_keys.specs.declared.check.NameKind.{NameKind}
use Rattle.ipc_keys.specs.declared.check.NameKind.TheVariants as names
use Rattle.posix_mq.specs.Queue.{Queue as Mq}
use Rattle.posix_mq.specs.declared.queue.Registration.{Registration}
use Rattle.ipc_state.specs.Bound.{kept_if}
use Rattle.ipc_state.specs.declared.parked.ObjectKind.TheVariants as kinds
use Rattle.ipc_state.specs.Kinds.{EntryOf, Those}
use Rattle.ipc_state.specs.Named.{NamedEntry, has_name}
use Rattle.ipc_state.specs.Opening.{deregistered, is_by, stays, still_open, unless_so, without_registrations}
use Rattle.ipc_state.proofs.CallerLemmas.{restart-segments, restart-sets}
use Rattle.ipc_engine.proofs.laws.restart_keeps_objects.Goals as goal

pub returns-clause-sets : goal.returns-clause-sets
returns-clause-sets c limits s = (restart-sets limits s).0

pub returns-clause-next_semset : goal.returns-clause-next_semset
returns-clause-next_semset c limits s = (restart-sets limits s).1

-- with no process, those that stay are those with a name
named-stay : (kind : NameKind) (es : List (ℕ × EntryOf (kinds.Named kind)))
    → filter (stays (kinds.Named kind) []) es ≡ filter (λ (e : ℕ × EntryOf (kinds.Named kind)). has_name e.1) es
named-stay kind [] = refl
named-stay kind (g ∷ es) =
    let kept : List (ℕ × EntryOf (kinds.Named kind)) = filter (stays (kinds.Named kind) []) es in
    ap (λ (b : Bool). cond b (g ∷ kept) kept) (alone g.1.bound)
    ∙ ap (λ (rest : List (ℕ × EntryOf (kinds.Named kind))). cond (has_name g.1) (g ∷ rest) rest) (named-stay kind es)
  where
    alone : (name : List ℕ) → (not (bytes_eq name []) || false) || false ≡ not (is_none name)
    alone [] = refl
    alone (c ∷ cs) = refl

named-kept : (kind : NameKind) (o : Those (kinds.Named kind))
    → still_open (kinds.Named kind) [] o ≡ kept_if (λ (e : ℕ × EntryOf (kinds.Named kind)). has_name e.1) o
named-kept kind o =
    ap (λ (es : List (ℕ × EntryOf (kinds.Named kind))). let p : Those (kinds.Named kind) = record { next = o.next; entries = es } in p)
    (named-stay kind o.entries)

-- what has a name is left
left : (es : List (ℕ × NamedEntry Mq)) (n : ℕ) (e : NamedEntry Mq) → value_at nat_eq es n ≡ Some e → has_name e ≡ true
    → value_at nat_eq (filter (λ (g : ℕ × NamedEntry Mq). has_name g.1) es) n ≡ Some e
left [] n e is named = is
left (g ∷ es) n e is named = by_key (nat_eq g.0 n) refl is (λ later. left es n e later named)
  where
    rest : List (ℕ × NamedEntry Mq)
    rest = filter (λ (d : ℕ × NamedEntry Mq). has_name d.1) es

    by_key : (b : Bool) → nat_eq g.0 n ≡ b → cond b (Some g.1) (value_at nat_eq es n) ≡ Some e
        → (value_at nat_eq es n ≡ Some e → value_at nat_eq rest n ≡ Some e)
        → value_at nat_eq (cond (has_name g.1) (g ∷ rest) rest) n ≡ Some e
    by_key true same is later =
        let value : g.1 ≡ e = cc in
        rw (ap (λ (x : NamedEntry Mq). has_name x) value ∙ named) (rw same is)
    by_key false apart is later = by_test (has_name g.1) (later is)
      where
        by_test : (b : Bool) → value_at nat_eq rest n ≡ Some e → value_at nat_eq (cond b (g ∷ rest) rest) n ≡ Some e
        by_test true on = rw apart on
        by_test false on = on

-- and nothing else
all-left : (es : List (ℕ × NamedEntry Mq))
    → All (λ (e : ℕ × NamedEntry Mq). has_name e.1 ≡ true) (filter (λ (e : ℕ × NamedEntry Mq). has_name e.1) es)
all-left [] = All-nil (λ (e : ℕ × NamedEntry Mq). has_name e.1 ≡ true)
all-left (g ∷ es) = by_test (has_name g.1) refl (all-left es)
  where
    rest : List (ℕ × NamedEntry Mq)
    rest = filter (λ (d : ℕ × NamedEntry Mq). has_name d.1) es

    by_test : (b : Bool) → has_name g.1 ≡ b → All (λ (e : ℕ × NamedEntry Mq). has_name e.1 ≡ true) rest
        → All (λ (e : ℕ × NamedEntry Mq). has_name e.1 ≡ true) (cond b (g ∷ rest) rest)
    by_test true is on = All-cons (λ (e : ℕ × NamedEntry Mq). has_name e.1 ≡ true) g rest is on
    by_test false is on = on

-- nobody is registered then
none-by : (r : Option Registration) → unless_so (is_by None None) r ≡ None
none-by None = refl
none-by (Some r) = refl

pub returns-clause-named : goal.returns-clause-named
returns-clause-named c limits s n e is named =
    let goes : Registration → Bool = is_by None None in
    let there : value_at nat_eq (without_registrations goes s.mq).entries n ≡ Some (deregistered goes e) =
    at-map (deregistered goes) s.mq.entries n ∙ ap (option_map (deregistered goes)) is in
    ap (λ (es : List (ℕ × NamedEntry Mq)). value_at nat_eq es n) (named-stay names.Mq (without_registrations goes s.mq).entries)
    ∙ left (without_registrations goes s.mq).entries n (deregistered goes e) there named
    ∙ ap (λ (r : Option Registration). Some (record e { object = record e.object { registration = r } })) (none-by e.object.registration)

pub returns-clause-no_other : goal.returns-clause-no_other
returns-clause-no_other c limits s =
    let es = (without_registrations (is_by None None) s.mq).entries in
    subst (All (λ (e : ℕ × NamedEntry Mq). has_name e.1 ≡ true)) (sym (named-stay names.Mq es))
    (all-left es)

pub returns-clause-psems : goal.returns-clause-psems
returns-clause-psems c limits s = named-kept names.Psem s.psem

pub returns-clause-segments : goal.returns-clause-segments
returns-clause-segments c limits s = named-kept names.Pshm s.pshm

pub returns-clause-shared : goal.returns-clause-shared
returns-clause-shared c limits s h = restart-segments limits s h.parts
