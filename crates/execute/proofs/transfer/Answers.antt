use Rattle.access.proofs.AccessLaws.{segment-inside}
use Rattle.execute.proofs.transfer.Goals as goal

pub move_fields-requires : goal.move_fields-requires
move_fields-requires c =
    (c.requires.0, (c.requires.1.0, (c.requires.1.1.1, (c.requires.1.1.0, search (segment-inside, c.in_ok-segment.was)))))
