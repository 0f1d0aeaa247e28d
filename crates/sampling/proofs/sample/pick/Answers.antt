use Rattle.sampling.proofs.Inserting.{inserted_new, inserted_bound}
use Rattle.sampling.proofs.sample.pick.Goals as goal

pub returns-in-Some : goal.returns-in-Some
returns-in-Some c s holds = inserted_bound c.args.taken.now s holds c.args.drawn c.args.bound c.in-Some.field-0 c.in-Some.ensures

pub returns-in-None : goal.returns-in-None
returns-in-None c s holds = inserted_new c.args.taken.now s holds c.args.drawn c.args.bound c.in-None.ensures
