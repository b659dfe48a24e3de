use Rattle.std.proofs.Common.{length}
use Rattle.cx_mean_objects.proofs.ending.+add_class_fields.Given as goal

abbrev pub decreases-add_class_fields : goal.decreases-add_class_fields
decreases-add_class_fields l = length l.fields.now
