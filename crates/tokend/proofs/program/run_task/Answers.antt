use Rattle.std.proofs.Common.{subst, sym, inl, inr}
use Rattle.tokend.specs.Task.{script_task, loopback_task, Asks}
use Rattle.tokend.proofs.Runs.{check_done, facts_done, faults_of_task, left_by_check, left_by_facts}
use Rattle.tokend.proofs.Runs.{left_by_task, script_done, service_done}
use Rattle.tokend.proofs.program.run_task.Goals as goal

pub returns-in-Script-clause-done : goal.returns-in-Script-clause-done
returns-in-Script-clause-done g c = λ words asked.
    let asks = subst (λ s. Asks words (script_task s)) (sym c.settings.ensures)
    (subst (Asks words) c.in-Script.is asked) in
    script_done (g.D.Folder.kept c.args.folder.now) g.L.Sink.holds
    (g.D.Folder.opens c.args.folder.now) words _ _ _ _ c.run_script.result
    (λ h. inl (c.settings.result, asks, h)) c.run_script.ensures.done

pub returns-in-Script-clause-fault : goal.returns-in-Script-clause-fault
returns-in-Script-clause-fault g c = λ words asked.
    let asks = subst (λ s. Asks words (script_task s)) (sym c.settings.ensures)
    (subst (Asks words) c.in-Script.is asked) in
    faults_of_task words _ _ c.run_script.result (λ fault h. inr (inl (c.settings.result, asks, h)))
    c.run_script.ensures.fault

pub returns-in-Script-clause-left : goal.returns-in-Script-clause-left
returns-in-Script-clause-left g c = λ words asked.
    let asks = subst (λ s. Asks words (script_task s)) (sym c.settings.ensures)
    (subst (Asks words) c.in-Script.is asked) in
    left_by_task (g.D.Folder.kept c.args.folder.now) words _ _ _ _ c.run_script.result
    (λ h fault. inl (inl (c.settings.result, asks, h))) c.run_script.ensures.left

pub returns-in-Loopback-clause-done : goal.returns-in-Loopback-clause-done
returns-in-Loopback-clause-done g c = λ words asked.
    let asks = subst (λ s. Asks words (loopback_task s)) (sym c.settings-in-Loopback.ensures)
    (subst (Asks words) c.in-Loopback.is asked) in
    script_done (g.D.Folder.kept c.args.folder.now) g.L.Sink.holds
    (g.D.Folder.opens c.args.folder.now) words _ _ _ _ c.run_loopback.result
    (λ h. inr (c.settings-in-Loopback.result, asks, h)) c.run_loopback.ensures.done

pub returns-in-Loopback-clause-fault : goal.returns-in-Loopback-clause-fault
returns-in-Loopback-clause-fault g c = λ words asked.
    let asks = subst (λ s. Asks words (loopback_task s)) (sym c.settings-in-Loopback.ensures)
    (subst (Asks words) c.in-Loopback.is asked) in
    faults_of_task words _ _ c.run_loopback.result
    (λ fault h. inr (inr (inl (c.settings-in-Loopback.result, asks, h))))
    c.run_loopback.ensures.fault

pub returns-in-Loopback-clause-left : goal.returns-in-Loopback-clause-left
returns-in-Loopback-clause-left g c = λ words asked.
    let asks = subst (λ s. Asks words (loopback_task s)) (sym c.settings-in-Loopback.ensures)
    (subst (Asks words) c.in-Loopback.is asked) in
    left_by_task (g.D.Folder.kept c.args.folder.now) words _ _ _ _ c.run_loopback.result
    (λ h fault. inl (inr (inl (c.settings-in-Loopback.result, asks, h))))
    c.run_loopback.ensures.left

pub returns-in-Serve-clause-done : goal.returns-in-Serve-clause-done
returns-in-Serve-clause-done g c = λ words asked.
    let asks = subst (Asks words) c.in-Serve.is asked in
    service_done (g.D.Folder.kept c.args.folder.now) g.L.Sink.holds
    (g.D.Folder.opens c.args.folder.now) words _ _ _ c.in-Serve.service c.serve.result asks
    c.serve.ensures.done

pub returns-in-Serve-clause-fault : goal.returns-in-Serve-clause-fault
returns-in-Serve-clause-fault g c = λ words asked.
    let asks = subst (Asks words) c.in-Serve.is asked in
    faults_of_task words _ _ c.serve.result (λ fault h. inl (c.in-Serve.service, asks, h))
    c.serve.ensures.fault

pub returns-in-Serve-clause-left : goal.returns-in-Serve-clause-left
returns-in-Serve-clause-left g c = λ words asked.
    let asks = subst (Asks words) c.in-Serve.is asked in
    left_by_task (g.D.Folder.kept c.args.folder.now) words _ _ _ _ c.serve.result
    (λ h fault. inr (inl (c.in-Serve.service, asks, h))) c.serve.ensures.left

pub returns-in-Facts-clause-done : goal.returns-in-Facts-clause-done
returns-in-Facts-clause-done g c = λ words asked.
    facts_done (g.D.Folder.kept c.args.folder.now) g.L.Sink.holds
    (g.D.Folder.opens c.args.folder.now) words _ _ _ c.in-Facts.sources c.print_facts.result
    (subst (Asks words) c.in-Facts.is asked) c.print_facts.ensures.done

pub returns-in-Facts-clause-fault : goal.returns-in-Facts-clause-fault
returns-in-Facts-clause-fault g c = λ words asked.
    let asks = subst (Asks words) c.in-Facts.is asked in
    faults_of_task words _ _ c.print_facts.result
    (λ fault h. inr (inr (inr (inl (c.in-Facts.sources, asks), h)))) c.print_facts.ensures.fault

pub returns-in-Facts-clause-left : goal.returns-in-Facts-clause-left
returns-in-Facts-clause-left g c = λ words asked.
    left_by_facts (g.D.Folder.kept c.args.folder.now) words _ _ _ c.in-Facts.sources
    c.print_facts.result (subst (Asks words) c.in-Facts.is asked) c.print_facts.ensures.left

pub returns-in-Check-clause-done : goal.returns-in-Check-clause-done
returns-in-Check-clause-done g c = λ words asked.
    check_done (g.D.Folder.kept c.args.folder.now) g.L.Sink.holds
    (g.D.Folder.opens c.args.folder.now) words _ _ _ c.in-Check.check c.check_facts.result
    (subst (Asks words) c.in-Check.is asked) c.check_facts.ensures.done

pub returns-in-Check-clause-fault : goal.returns-in-Check-clause-fault
returns-in-Check-clause-fault g c = λ words asked.
    let asks = subst (Asks words) c.in-Check.is asked in
    faults_of_task words _ _ c.check_facts.result
    (λ fault h. inr (inr (inr (inr (c.in-Check.check, asks), h)))) c.check_facts.ensures.fault

pub returns-in-Check-clause-left : goal.returns-in-Check-clause-left
returns-in-Check-clause-left g c = λ words asked.
    left_by_check (g.D.Folder.kept c.args.folder.now) words _ _ _ c.in-Check.check
    c.check_facts.result (subst (Asks words) c.in-Check.is asked) c.check_facts.ensures.left
