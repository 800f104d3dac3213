use Rattle.std.proofs.Common.{rules}
use Rattle.tk_edge.proofs.AnswerLaws.{served, faulted, unread, faults_as}
use Rattle.tk_edge.specs.Pushes.{bundle_to_log}
use Rattle.tk_edge.proofs.StreamLaws.{hears_nothing}
use Rattle.tk_edge.specs.declared.tell.Fault.TheVariants.{Write, Log}
use Rattle.tk_edge.proofs.serving.serve_arrival.Goals as goal

pub returns-then-is_silent-clause-served : goal.returns-then-is_silent-clause-served
returns-then-is_silent-clause-served g c = λ reach known arrives.
    (hears_nothing reach known _ (c.is_silent.ensures.silent (search rules)) arrives, search rules)

pub returns-in-Ok-clause-served : goal.returns-in-Ok-clause-served
returns-in-Ok-clause-served g c = λ reach known arrives.
    served (record {
      reach = reach;
      terms = c.args.terms.now;
      log_taken = c.args.log_taken;
      known = known;
      now = c.args.now;
      words = c.args.words.now;
    })
    c.args.came
    c.args.region.now c.reply.new.region _ _ _ c.reply.new.sealed
    arrives (c.is_silent.ensures.spoke (search rules)) c.in-Ok.status c.in-Ok.ensures.replies

pub returns-clause-served : goal.returns-clause-served
returns-clause-served g c = λ reach known arrives.
    faulted (record {
      reach = reach;
      terms = c.args.terms.now;
      log_taken = c.args.log_taken;
      known = known;
      now = c.args.now;
      words = c.args.words.now;
    })
    c.args.came
    c.args.region.now c.reply.new.region _ _ _ c.reply.new.sealed
    arrives (c.is_silent.ensures.spoke (search rules)) c.in-Err.fault c.in-Err.ensures.replies

pub returns-clause-read : goal.returns-clause-read
returns-clause-read g c = unread (bundle_to_log c.args.log_taken c.args.came) c.args.terms.now
    c.args.now c.args.words.now c.args.came _ _ _ _ _ c.in-Err.fault c.in-Err.ensures.replies

pub returns-clause-writer_fault : goal.returns-clause-writer_fault
returns-clause-writer_fault g c =
    λ is. c.in-Err.ensures.faults.writer (faults_as c.in-Err.fault Write is)

pub returns-clause-log_fault : goal.returns-clause-log_fault
returns-clause-log_fault g c = λ is. c.in-Err.ensures.faults.log (faults_as c.in-Err.fault Log is)
