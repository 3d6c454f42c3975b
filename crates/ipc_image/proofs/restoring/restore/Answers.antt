-- The parts of a state, and the state that they make.
use Rattle.std.proofs.Common.{◌≡◌, ◌∙◌, ◌++◌, ℕ, List, [], drop, map, sym, ap}
use Rattle.std.specs.Prelude.{Err}
use Rattle.ipc_limits.specs.declared.limits.Limits.{Limits}
use Rattle.ipc_base.specs.Objects.{PlainObjects}
use Rattle.ipc_base.specs.Table.{keys_of}
use Rattle.sem_undo.specs.Undo.{Undo}
use Rattle.ipc_state.specs.declared.processes.Process.{Process}
use Rattle.shm_segment.specs.SysSegment.{SysSegment}
use Rattle.ipc_state.specs.Keyed.{Keyed}
use Rattle.ipc_state.specs.Restored.{with_numbers}
use Rattle.ipc_state.specs.State.{State, start}
use Rattle.ipc_image.specs.Saved.{clock_bytes, processes_bytes, waits_bytes, adjustments_bytes}
use Rattle.ipc_image.specs.Saved.{queue_object, set_object, later_in, later_objects}
use Rattle.ipc_image.proofs.WholeState.{parts_of, same_object, processes_added, processes_one, all-added, AreAdjustmentsRead, all_restored, restored_once}
use Rattle.ipc_image.proofs.WholeState.{sets_and_later, after-queues, after-sets}
use Rattle.ipc_image.proofs.restoring.restore.Goals as goal

pub returns-in_default-clause-damaged : goal.returns-in_default-clause-damaged
returns-in_default-clause-damaged c is s all has are =
    c.in_default.ensures.none (clock_bytes c.args.form s) (parts_of c.args.form s c.args.objects.now are).clock

pub returns-in_default-object_numbered-clause-damaged : goal.returns-in_default-object_numbered-clause-damaged
returns-in_default-object_numbered-clause-damaged c is s all has are =
    c.in_default-object_numbered.ensures.none (processes_bytes s.processes.entries) (parts_of c.args.form s c.args.objects.now are).processes

pub returns-in_default-object_numbered-2-clause-damaged : goal.returns-in_default-object_numbered-2-clause-damaged
returns-in_default-object_numbered-2-clause-damaged c is s all has are =
    c.in_default-object_numbered-2.ensures.none (waits_bytes s.wait) (parts_of c.args.form s c.args.objects.now are).calls

pub returns-in_default-object_numbered-3-clause-damaged : goal.returns-in_default-object_numbered-3-clause-damaged
returns-in_default-object_numbered-3-clause-damaged c is s all has are =
    c.in_default-object_numbered-3.ensures.none (adjustments_bytes s.undo) (parts_of c.args.form s c.args.objects.now are).adjustments

pub returns-in_default-read_clock-clause-damaged : goal.returns-in_default-read_clock-clause-damaged
returns-in_default-read_clock-clause-damaged c is s all has are =
    c.in_default-read_clock.ensures.none s all.clock
    (same_object c.args.objects.now 0 c.in-Some.clock.now (clock_bytes c.args.form s) c.in-Some.ensures.some
    (parts_of c.args.form s c.args.objects.now are).clock)

pub returns-in_err-read_counted-clause-damaged : goal.returns-in_err-read_counted-clause-damaged
returns-in_err-read_counted-clause-damaged c is s all has are =
    let why = rw is at c.from_residual.ensures in
    let same = same_object c.args.objects.now 1 c.in-Some-object_numbered.processes.now (processes_bytes s.processes.entries)
    c.in-Some-object_numbered.ensures.some (parts_of c.args.form s c.args.objects.now are).processes in
    c.in_err-read_counted.ensures.damaged (ap (λ e. Err e) (sym why.1)) s.processes.entries all.count all.processes same

pub returns-in_err-restore_waits-clause-damaged : goal.returns-in_err-restore_waits-clause-damaged
returns-in_err-restore_waits-clause-damaged c is s all has are =
    let why = rw is at c.from_residual-in_err-restore_waits.ensures in
    let same = same_object c.args.objects.now 2 c.in-Some-object_numbered-2.calls.now (waits_bytes s.wait)
    c.in-Some-object_numbered-2.ensures.some (parts_of c.args.form s c.args.objects.now are).calls in
    c.in_err-restore_waits.ensures.damaged (ap (λ e. Err e) (sym why.1)) s.wait all.wait_count all.waits all.pids same

pub returns-in_err-restore_adjustments-clause-damaged : goal.returns-in_err-restore_adjustments-clause-damaged
returns-in_err-restore_adjustments-clause-damaged c is s all has are =
    let objects = c.args.objects.now in
    let why = rw is at c.from_residual-in_err-restore_adjustments.ensures in
    let parts = parts_of c.args.form s objects are in
    let ps = c.in_ok-read_counted.ensures.ok in
    let ws = c.in_ok-restore_waits.ensures.ok in
    let n = c.in-Some-read_clock.numbers in
    let from : (c.restore_numbers.new.self.state, c.restore_numbers.new.self.limits) ≡ (with_numbers start n, c.restore_numbers.new.self.limits) =
    ap (λ (s : State). let r : State × Limits = (s, c.restore_numbers.new.self.limits) in r)
    (c.restore_numbers.ensures.state ∙ ap (λ (s : State). with_numbers s n) c.requires.start) in
    let added = processes_added n c.restore_numbers.new.self.limits _ _ _ ps.0 ws.0 from ps.4 ws.5 in
    let same = processes_one s.processes.entries ps.0 all.count ps.1 all.processes ps.2
    (same_object objects 1 _ _ parts.processes c.in-Some-object_numbered.ensures.some ∙ ps.3) in
    c.in_err-restore_adjustments.ensures.damaged (ap (λ e. Err e) (sym why.1)) s.undo all.adjustment_count all.adjustments
    (all.undo_pids ∙ ap (λ (l : List (ℕ × Process)). keys_of l) (same ∙ sym added)) all.distinct
    (same_object objects 3 c.in-Some-object_numbered-3.adjustments.now (adjustments_bytes s.undo) c.in-Some-object_numbered-3.ensures.some parts.adjustments)

pub returns-in_err-next-clause-damaged : goal.returns-in_err-next-clause-damaged
returns-in_err-next-clause-damaged c is s all has are =
    let why = rw is at c.from_residual-in_err-next.ensures in
    c.in_err-next.ensures.damaged (ap (λ e. Err e) (sym why.1)) s.msg.entries (sets_and_later s) (after-queues s) all.queues
    (parts_of c.args.form s c.args.objects.now are).things

pub returns-in_err-next-2-clause-damaged : goal.returns-in_err-next-2-clause-damaged
returns-in_err-next-2-clause-damaged c is s all has are =
    let why = rw is at c.from_residual-in_err-next-2.ensures in
    let left = c.in_ok-next.ensures.whole s.msg.entries _ (after-queues s) (parts_of c.args.form s c.args.objects.now are).things all.queues in
    c.in_err-next-2.ensures.damaged (ap (λ e. Err e) (sym why.1)) s.semset.entries (later_objects (later_in s)) (after-sets s) all.sets left

pub returns-in_err-restore_later-clause-damaged : goal.returns-in_err-restore_later-clause-damaged
returns-in_err-restore_later-clause-damaged c is s all has are =
    let why = rw is at c.from_residual-in_err-restore_later.ensures in
    let left = c.in_ok-next.ensures.whole s.msg.entries _ (after-queues s) (parts_of c.args.form s c.args.objects.now are).things all.queues in
    let last = c.in_ok-next-2.ensures.whole s.semset.entries _ (after-sets s) left all.sets in
    c.in_err-restore_later.ensures.damaged (ap (λ e. Err e) (sym why.1)) (later_in s) all.later
    (λ none. ap (λ (k : Keyed SysSegment). k.entries) (has none)) last

pub returns-clause-ok : goal.returns-clause-ok
returns-clause-ok c =
    let objects = c.args.objects.now in
    let n = c.in-Some-read_clock.numbers in
    let ps = c.in_ok-read_counted.ensures.ok in
    let ws = c.in_ok-restore_waits.ensures.ok in
    let us = c.in_ok-restore_adjustments.ensures.ok in
    let undo : List (ℕ × Undo) = c.restore_adjustments.new.state.state.undo in
    let es = c.in_ok-next.ensures.ok in
    let fs = c.in_ok-next-2.ensures.ok in
    let later = c.in_ok-restore_later.ensures.ok in
    let from : (c.restore_numbers.new.self.state, c.restore_numbers.new.self.limits) ≡ (with_numbers start n, c.restore_numbers.new.self.limits) =
    ap (λ (s : State). let r : State × Limits = (s, c.restore_numbers.new.self.limits) in r)
    (c.restore_numbers.ensures.state ∙ ap (λ (s : State). with_numbers s n) c.requires.start) in
    let added = processes_added n c.restore_numbers.new.self.limits _ _ _ ps.0 ws.0 from ps.4 ws.5 in
    let is = all-added n c.restore_numbers.new.self.limits _ _ _ _ _ _ (c.restore_later.new.state.state, c.restore_later.new.state.limits)
    ps.0 ws.0 undo es.0 fs.0 later.0 from ps.4 (λ i. (ws.5 i, c.in_ok-restore_waits.ensures.limits i))
    (λ i. (c.in_ok-restore_adjustments.ensures.others i, c.in_ok-restore_adjustments.ensures.limits i)) es.3 fs.3 later.4 in
    let sets : drop c.in_ok-next.next objects ≡ map set_object fs.0 ++ later_objects later.0 =
    fs.2 ∙ ap (λ (l : PlainObjects). map set_object fs.0 ++ l) later.3 in
    let read : AreAdjustmentsRead ps.0 undo c.in-Some-object_numbered-3.adjustments.now = record {
      count = us.0;
      fit = us.1;
      bytes = us.2;
      pids = us.3 ∙ ap (λ (l : List (ℕ × Process)). keys_of l) added;
    } in
    all_restored c.args.form objects n ps.0 ws.0 undo es.0 fs.0 later.0 _ c.in-Some.clock.now c.in-Some-object_numbered.processes.now
    c.in-Some-object_numbered-2.calls.now c.in-Some-object_numbered-3.adjustments.now c.in-Some.ensures.some c.in-Some-object_numbered.ensures.some
    c.in-Some-object_numbered-2.ensures.some c.in-Some-object_numbered-3.ensures.some read
    c.in-Some-read_clock.ensures.some ps.1 ps.2 ps.3 ws.1 ws.2 ws.3 ws.4 es.1 fs.1 later.1
    (es.2 ∙ ap (λ (l : PlainObjects). map (queue_object c.args.form.marks) es.0 ++ l) sets) (ap (λ (r : State × Limits). r.0) is)

-- if the version has no System V segments, none was read
pub returns-clause-kinds : goal.returns-clause-kinds
returns-clause-kinds c none =
    let shm : State × Limits → Keyed SysSegment = λ r. r.0.shm in
    let in_state : State → Keyed SysSegment = λ s. s.shm in
    let later = c.in_ok-restore_later.ensures.ok in
    let before = ap shm c.in_ok-next-2.ensures.ok.3 ∙ ap shm c.in_ok-next.ensures.ok.3 ∙ ap in_state c.in_ok-restore_adjustments.ensures.others
    ∙ ap in_state c.in_ok-restore_waits.ensures.ok.5 ∙ ap shm c.in_ok-read_counted.ensures.ok.4
    ∙ ap in_state (c.restore_numbers.ensures.state ∙ ap (λ (s : State). with_numbers s c.in-Some-read_clock.numbers) c.requires.start) in
    let one : ℕ → Keyed SysSegment = λ n. record { next = n; entries = [] } in
    ap shm later.4 ∙ (λ i. record { next = (before i).next; entries = (before i).entries ++ later.2 none i })
    ∙ ap one (c.in-Some-read_clock.ensures.others none)

pub returns-clause-once : goal.returns-clause-once
returns-clause-once c s all has are =
    let ps = c.in_ok-read_counted.ensures.ok in
    let ws = c.in_ok-restore_waits.ensures.ok in
    let n = c.in-Some-read_clock.numbers in
    let from : (c.restore_numbers.new.self.state, c.restore_numbers.new.self.limits) ≡ (with_numbers start n, c.restore_numbers.new.self.limits) =
    ap (λ (s : State). let r : State × Limits = (s, c.restore_numbers.new.self.limits) in r)
    (c.restore_numbers.ensures.state ∙ ap (λ (s : State). with_numbers s n) c.requires.start) in
    let added = processes_added n c.restore_numbers.new.self.limits _ _ _ ps.0 ws.0 from ps.4 ws.5 in
    let undo : c.restore_later.new.state.state.undo ≡ c.restore_adjustments.new.state.state.undo =
    ap (λ (r : State × Limits). r.0.undo) c.in_ok-restore_later.ensures.ok.4 ∙ ap (λ (r : State × Limits). r.0.undo) c.in_ok-next-2.ensures.ok.3
    ∙ ap (λ (r : State × Limits). r.0.undo) c.in_ok-next.ensures.ok.3 in
    restored_once c.args.form c.requires.known s c.restore_later.new.state.state c.args.objects.now ps.0 c.in-Some-object_numbered.processes.now all has
    (returns-clause-kinds c) are (returns-clause-ok c)
    c.in-Some-object_numbered.ensures.some ps.1 ps.2 ps.3
    (ap (λ (us : List (ℕ × Undo)). keys_of us) undo ∙ c.in_ok-restore_adjustments.ensures.ok.3
    ∙ ap (λ (l : List (ℕ × Process)). keys_of l) added)

pub returns-clause-limits : goal.returns-clause-limits
returns-clause-limits c =
    let limits : State × Limits → Limits = λ r. r.1 in
    ap limits c.in_ok-restore_later.ensures.ok.4 ∙ ap limits c.in_ok-next-2.ensures.ok.3 ∙ ap limits c.in_ok-next.ensures.ok.3
    ∙ c.in_ok-restore_adjustments.ensures.limits ∙ c.in_ok-restore_waits.ensures.limits
    ∙ ap limits c.in_ok-read_counted.ensures.ok.4 ∙ c.restore_numbers.ensures.limits
