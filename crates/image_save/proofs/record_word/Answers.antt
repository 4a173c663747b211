use Rattle.image_save.proofs.Body as body
use Rattle.image_save.proofs.record_word.Goals as goal

pub returns-then-i-packets : goal.returns-then-i-packets
returns-then-i-packets c = body.is_packet _ c.requires c.args.i c.if-i-packets.true

pub returns-then-i1-relations : goal.returns-then-i1-relations
returns-then-i1-relations c = body.is_relation _ c.requires c.args.i c.if-i-packets.false c.if-i1-relations.true

pub returns-then-i2-listed : goal.returns-then-i2-listed
returns-then-i2-listed c = body.is_member _ c.requires c.args.i c.if-i-packets.false c.if-i1-relations.false c.if-i2-listed.true

pub returns-then-i3-plain : goal.returns-then-i3-plain
returns-then-i3-plain c =
    body.is_state _ c.requires c.args.i c.if-i-packets.false c.if-i1-relations.false c.if-i2-listed.false c.if-i3-plain.true

pub returns-then-i4-place : goal.returns-then-i4-place
returns-then-i4-place c =
    body.is_line _ c.requires c.args.i c.if-i-packets.false c.if-i1-relations.false c.if-i2-listed.false c.if-i3-plain.false c.if-i4-place.true

pub returns : goal.returns
returns c =
    body.is_nothing _ c.requires c.args.i c.if-i-packets.false c.if-i1-relations.false c.if-i2-listed.false c.if-i3-plain.false c.if-i4-place.false
