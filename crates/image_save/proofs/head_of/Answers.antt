use Rattle.image_save.proofs.Body as body
use Rattle.image_save.proofs.head_of.Goals as goal

pub returns : goal.returns
returns c = body.head_given c.args.setting c.args.place.now c.requires
