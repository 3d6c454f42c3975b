-- What is shown of a call by its steps: what it found if it went on, that it never waits, and that another attempt at it waits
-- alike. And what comes of a call that may wait, by its tests.
use Rattle.std.proofs.Common.{◌≡◌, ◌∙◌, ℕ, Bool, true, false, not, Option, Some, None, refl, subst, sym, ap}
use Rattle.std.specs.Prelude.{Ok, Err, Result, is_some, if◌then◌else◌}
use Rattle.ipc_base.specs.declared.errno.Errno.{Errno}
use Rattle.ipc_base.specs.declared.errno.Errno.TheVariants.{EINVAL}
use Rattle.ipc_state.specs.Finish.{Attempt, Done, Finish, Finishes, Halt, Fails, Blocks, Tried, done_firing, ended, has_to_wait, refuse, stop, if_some}
use Rattle.ipc_state.specs.Finish.{◌orelse◌, ◌orstop◌, ◌>>◌, ◌>>=◌}
use Rattle.ipc_state.specs.State.{State}
use Rattle.ipc_state.specs.declared.answers.Halt.{Halt as Stops}
use Rattle.ipc_state.specs.Steps.{attempted, plain_halt, seen}

pub ok-same : {X : Type 0} {x y : X} → (let a : Attempt X = Ok x in a) ≡ Ok y → x ≡ y
ok-same is = cc

-- ---- whether a call has to wait

abbrev pub is_blocked : {X : Type 0} → Attempt X → Bool
is_blocked (Ok x) = false
is_blocked (Err (Fails e)) = false
is_blocked (Err Blocks) = true

pub waits-blocked : (s : State) (a : Attempt Done) → has_to_wait (ended s a) ≡ is_blocked a
waits-blocked s (Ok d) = refl
waits-blocked s (Err (Fails e)) = refl
waits-blocked s (Err Blocks) = refl

-- ---- steps one by one

-- what holds where steps end: of the value, if they go on to one; and those that never wait are not stopped to wait
pub record AtEnd {X : Type 0} (never : Bool) (P : X → Type 0) (a : Attempt X) : Type 0 where
  pub holds : (x : X) → a ≡ Ok x → P x
  pub runs : never ≡ true → is_blocked a ≡ false

module _ {X : Type 0} {P : X → Type 0} {never : Bool} where
  pub at-value : (x : X) → P x → AtEnd never P (Ok x)
  at-value x p = record { holds = λ y is. subst P (ok-same is) p; runs = λ _. refl }

  pub at-failure : (e : Errno) → AtEnd never P (Err (Fails e))
  at-failure e = record { holds = λ y is. cc; runs = λ _. refl }

  -- stopped where they may wait
  pub at-halt : never ≡ false → (h : Halt) → AtEnd never P (Err h)
  at-halt may h = record { holds = λ y is. cc; runs = λ is. let both : true ≡ false = sym is ∙ may in cc }

  pub after-refuse : (e : Errno) {b : Bool} {rest : Attempt X} → (b ≡ false → AtEnd never P rest) → AtEnd never P (refuse e b >> rest)
  after-refuse e {b = true} go = at-failure e
  after-refuse e {b = false} go = go refl

  pub after-stop : never ≡ false → (h : Halt) {b : Bool} {rest : Attempt X} → (b ≡ false → AtEnd never P rest) → AtEnd never P (stop h b >> rest)
  after-stop may h {b = true} go = at-halt may h
  after-stop may h {b = false} go = go refl

  pub after-orelse : {Y : Type 0} (e : Errno) {o : Option Y} {rest : Y → Attempt X} → ((y : Y) → o ≡ Some y → AtEnd never P (rest y))
      → AtEnd never P (o orelse e >>= rest)
  after-orelse e {o = None} go = at-failure e
  after-orelse e {o = Some y} go = go y refl

  pub after-orstop : {Y : Type 0} → never ≡ false → (h : Halt) {o : Option Y} {rest : Y → Attempt X} → ((y : Y) → o ≡ Some y → AtEnd never P (rest y))
      → AtEnd never P (o orstop h >>= rest)
  after-orstop may h {o = None} go = at-halt may h
  after-orstop may h {o = Some y} go = go y refl

  -- after steps of which it is shown too
  pub after : {Y : Type 0} {Q : Y → Type 0} {a : Attempt Y} {rest : Y → Attempt X} → AtEnd never Q a
      → ((y : Y) → Q y → AtEnd never P (rest y)) → AtEnd never P (a >>= rest)
  after {a = Ok y} end go = go y (end.holds y refl)
  after {a = Err (Fails e)} end go = at-failure e
  after {a = Err Blocks} end go = record { holds = λ y is. cc; runs = end.runs }

  pub after-then : {Q : Unit {0} → Type 0} {a : Attempt (Unit {0})} {rest : Attempt X} → AtEnd never Q a → (Q tt → AtEnd never P rest)
      → AtEnd never P (a >> rest)
  after-then {a = Ok tt} end go = go (end.holds tt refl)
  after-then {a = Err (Fails e)} end go = at-failure e
  after-then {a = Err Blocks} end go = record { holds = λ y is. cc; runs = end.runs }

  pub by-if_some : {Y : Type 0} {o : Option Y} {there : Y → Attempt X} {missing : Attempt X}
      → ((y : Y) → o ≡ Some y → AtEnd never P (there y)) → (o ≡ None → AtEnd never P missing) → AtEnd never P (if_some o there missing)
  by-if_some {o = None} h k = k refl
  by-if_some {o = Some y} h k = h y refl

  pub by-test : (b : Bool) {x y : Attempt X} → AtEnd never P x → AtEnd never P y → AtEnd never P (if b then x else y)
  by-test true f g = f
  by-test false f g = g

-- a value that there is
pub at-some : {never : Bool} {X : Type 0} (e : Errno) (o : Option X) → AtEnd never (λ (x : X). o ≡ Some x) (o orelse e)
at-some e None = at-failure e
at-some e (Some x) = at-value x refl

-- steps that wait for what is there alone: once it is found they may wait
pub may-wait : {Y : Type 0} {o : Option Y} {y : Y} → o ≡ Some y → not (is_some o) ≡ false
may-wait {Y = Y} there = ap (λ (r : Option Y). not (is_some r)) there

-- for what they wait need not be told
pub at-all : {X : Type 0} {P : X → Type 0} {a : Attempt X} {never : Bool} → AtEnd never P a → AtEnd false P a
at-all end = record { holds = end.holds; runs = λ is. cc }

-- ---- a call that may wait: its tests, and what is done after them

module _ {X : Type 0} (s : State) (tests : Attempt X) (ends : X → Done) where
  -- whether it has to wait, its tests say
  pub waits-as-tested : has_to_wait (ended s (tests >>= (λ x. Ok (ends x)))) ≡ is_blocked tests
  waits-as-tested = by_tests tests
    where
      by_tests : (a : Attempt X) → has_to_wait (ended s (a >>= (λ x. Ok (ends x)))) ≡ is_blocked a
      by_tests (Ok x) = refl
      by_tests (Err (Fails e)) = refl
      by_tests (Err Blocks) = refl

  -- if it waits for what is there alone, that is there
  pub waits-for : {P : X → Type 0} {there : Bool} → AtEnd (not there) P tests → has_to_wait (ended s (tests >>= (λ x. Ok (ends x)))) ≡ true
      → there ≡ true
  waits-for {there = true} end waits = refl
  waits-for {there = false} end waits = let both : true ≡ false = sym waits ∙ (waits-as-tested ∙ end.runs refl) in cc

-- what is seen of its tests tells whether it has to wait; and stopped by them, it ends so
pub record Tested (s : State) (call : Attempt Done) (number : Attempt ℕ) : Type 0 where
  pub waits : has_to_wait (ended s call) ≡ is_blocked number
  pub stopped : (h : Halt) → number ≡ Err h → ended s (Err h) ≡ ended s call

pub tested : {X : Type 0} (s : State) (f : X → ℕ) (tests : Attempt X) (ends : X → Done) → Tested s (tests >>= (λ x. Ok (ends x))) (seen f tests)
tested s f (Ok x) ends = record { waits = refl; stopped = λ h is. cc }
tested s f (Err (Fails e)) ends = record { waits = refl; stopped = λ h is. let same : h ≡ Fails e = cc in ap (λ k. ended s (Err k)) same }
tested s f (Err Blocks) ends = record { waits = refl; stopped = λ h is. let same : h ≡ Blocks = cc in ap (λ k. ended s (Err k)) same }

-- what is seen of steps that go on tells what they found
pub record HasFound {X Y : Type 0} (f : X → Y) (P : X → Type 0) (a : Attempt X) (y : Y) : Type 0 where
  pub value : X
  pub was : a ≡ Ok value
  pub is : f value ≡ y
  pub holds : P value

pub has-found : {X Y : Type 0} {f : X → Y} {P : X → Type 0} {a : Attempt X} {y : Y} {never : Bool} → AtEnd never P a → seen f a ≡ Ok y → HasFound f P a y
has-found {a = Ok x} end is = record { value = x; was = refl; is = cc; holds = end.holds x refl }
has-found {a = Err h} end is = cc

-- so a call that passes its tests ends as with what they found
pub finishes : {X Y : Type 0} {f : X → Y} {P : X → Type 0} {tests : Attempt X} {y : Y} (g : HasFound f P tests y) (s : State) (ends : X → Done) (left : Finish)
    → left ≡ done_firing (ends g.value).state (ends g.value).body (ends g.value).fired → Finishes left ≡ ended s (tests >>= (λ x. Ok (ends x)))
finishes {X = X} g s ends left is = ap Finishes is ∙ sym (ap (λ (a : Attempt X). ended s (a >>= (λ x. Ok (ends x)))) g.was)

-- ---- one of the calls that may wait, and what its tests answered

pub record Answered {C : Type 0} (s : State) (definition : C → Attempt Done) (number : C → Attempt ℕ) (call : C) (r : Result ℕ Stops) : Type 0 where
  pub tests : Tested s (definition call) (number call)
  pub told : attempted r ≡ number call

module _ {C : Type 0} {s : State} {definition : C → Attempt Done} {number : C → Attempt ℕ} {call : C} {r : Result ℕ Stops}
    (a : Answered s definition number call r) where
  pub waits-on : is_blocked (attempted r) ≡ has_to_wait (ended s (definition call))
  waits-on = ap is_blocked a.told ∙ sym a.tests.waits

  -- stopped by them, it ends so
  pub ends-stopped : (h : Stops) → r ≡ Err h → ended s (Err (plain_halt h)) ≡ ended s (definition call)
  ends-stopped h was = a.tests.stopped (plain_halt h) (sym a.told ∙ ap attempted was)

  -- if it may go on, what they said of this call, and that it ends as this one
  pub said : {at : ℕ} → r ≡ Ok at → (this : C) → call ≡ this → number this ≡ Ok at
  said was this is = sym (ap number is) ∙ (sym a.told ∙ ap attempted was)

  pub ends-as : (this : C) → call ≡ this → (t : Tried) → t ≡ ended s (definition this) → t ≡ ended s (definition call)
  ends-as this is t so = so ∙ sym (ap (λ (c : C). ended s (definition c)) is)

-- ---- two attempts at the same call

-- an attempt, but for why it fails
abbrev unnamed : {X : Type 0} → Attempt X → Attempt X
unnamed (Ok x) = Ok x
unnamed (Err (Fails e)) = Err (Fails EINVAL)
unnamed (Err Blocks) = Err Blocks

-- they are the same, but for why they fail
pub record AreAlike {X : Type 0} (a b : Attempt X) : Type 0 where
  same : unnamed a ≡ unnamed b

pub same-alike : {X : Type 0} {a b : Attempt X} → a ≡ b → AreAlike a b
same-alike is = record { same = ap unnamed is }

-- they find the same
pub orelse-alike : {X Y : Type 0} (e f : Errno) {o p : Option X} {next other : X → Attempt Y} → p ≡ o
    → ((x : X) → o ≡ Some x → AreAlike (next x) (other x)) → AreAlike (p orelse e >>= next) (o orelse f >>= other)
orelse-alike e f {o = None} {p = None} same rest = record { same = refl }
orelse-alike e f {o = None} {p = Some y} same rest = cc
orelse-alike e f {o = Some x} {p = None} same rest = cc
orelse-alike e f {o = Some x} {p = Some y} {next = next} {other = other} same rest =
    let one : y ≡ x = cc in subst (λ z. AreAlike (next z) (other x)) (sym one) (rest x refl)

pub past-alike : {X : Type 0} (a : Attempt (Unit {0})) {x y : Attempt X} → AreAlike x y → AreAlike (a >> x) (a >> y)
past-alike (Ok u) alike = alike
past-alike (Err (Fails e)) alike = record { same = refl }
past-alike (Err Blocks) alike = record { same = refl }

pub then-alike : {X Y : Type 0} {a b : Attempt X} {next other : X → Attempt Y} → AreAlike a b → ((x : X) → AreAlike (next x) (other x))
    → AreAlike (a >>= next) (b >>= other)
then-alike {a = Ok x} {b = Ok y} {next = next} {other = other} alike rest =
    let one : x ≡ y = ok-same alike.same in subst (λ z. AreAlike (next x) (other z)) one (rest x)
then-alike {a = Ok x} {b = Err (Fails e)} alike rest = let no = alike.same in cc
then-alike {a = Ok x} {b = Err Blocks} alike rest = let no = alike.same in cc
then-alike {a = Err (Fails e)} {b = Ok y} alike rest = let no = alike.same in cc
then-alike {a = Err (Fails e)} {b = Err (Fails f)} alike rest = record { same = refl }
then-alike {a = Err (Fails e)} {b = Err Blocks} alike rest = let no = alike.same in cc
then-alike {a = Err Blocks} {b = Ok y} alike rest = let no = alike.same in cc
then-alike {a = Err Blocks} {b = Err (Fails e)} alike rest = let no = alike.same in cc
then-alike {a = Err Blocks} {b = Err Blocks} alike rest = record { same = refl }

-- so both have to wait, or neither
pub alike-waits : {X : Type 0} {a b : Attempt X} (s t : State) (ends others : X → Done) → AreAlike a b
    → has_to_wait (ended t (a >>= (λ x. Ok (others x)))) ≡ has_to_wait (ended s (b >>= (λ x. Ok (ends x))))
alike-waits {a = a} {b = b} s t ends others alike =
    waits-as-tested t a others ∙ (blocked-unnamed a ∙ (ap is_blocked alike.same ∙ (sym (blocked-unnamed b) ∙ sym (waits-as-tested s b ends))))
  where
    blocked-unnamed : {Z : Type 0} (c : Attempt Z) → is_blocked c ≡ is_blocked (unnamed c)
    blocked-unnamed (Ok x) = refl
    blocked-unnamed (Err (Fails e)) = refl
    blocked-unnamed (Err Blocks) = refl
