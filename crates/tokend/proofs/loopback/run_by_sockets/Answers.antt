use Rattle.tokend.proofs.loopback.run_by_sockets.Goals as goal

pub returns-in-Ok-ran-clause-run : goal.returns-in-Ok-ran-clause-run
returns-in-Ok-ran-clause-run g c = record {
  after = c.run_by-ran.new.self;
  acts = rw c.new-world.ensures.empty at c.in-Ok-ran.ensures.acts;
  run = rw c.new-world.ensures.empty at c.in-Ok-ran.ensures.run;
  standing = c.known.ensures.stands;
  answers = c.known.ensures.answers;
  revoked = c.known.ensures.revoked;
  families = c.known.ensures.families;
}
