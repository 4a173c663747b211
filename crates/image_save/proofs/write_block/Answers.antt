use Rattle.image_save.proofs.Bytes as bytes
use Rattle.image_save.proofs.write_block.Goals as goal

pub returns : goal.returns
returns c =
    bytes.block_is _ c.args.b _ _ _ _ c.requires.room c.put_half.ensures c.write_words.ensures c.close_block.ensures
