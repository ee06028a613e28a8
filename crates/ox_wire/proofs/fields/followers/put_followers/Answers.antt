use Rattle.ox_wire.proofs.Listed.{followers_text, followers_lawful}
use Rattle.ox_wire.proofs.fields.followers.put_followers.Goals as goal

pub put-requires : goal.put-requires
put-requires c = followers_lawful c.args.followers.now c.requires

pub returns : goal.returns
returns c = rw (← followers_text c.args.followers.now) c.put.ensures
