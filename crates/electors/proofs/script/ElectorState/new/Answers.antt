use Rattle.std.proofs.Common.{◌≡◌, None, refl, rules}
use Rattle.electors.proofs.Leaders.{scripted_kept}
use Rattle.electors.proofs.script.ElectorState.new.Goals as goal

pub returns-in-Ok : goal.returns-in-Ok
returns-in-Ok g c =
    let q : c.try_extend_from_slice.new.self.items ≡ c.args.leaders.now = search rules in
    (refl, q, scripted_kept _ _ _ _ _ (search rules) q)
