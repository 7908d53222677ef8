-- AN OLD READER MEETS A NEWER CAMERA: demand 3, whole, from proofs/Meeting and proofs/Unaltered. Assumes nothing.
use mathlib.Core.Path.{ap}
use mathlib.Core.Bool.{Bool}
use mathlib.Core.List.{map}
use Rattle.reading.specs.Record.{Record}
use Rattle.reading.specs.Walk.{reading_of}
use Rattle.newer_camera.specs.OtherBytes.{put_again}
use Rattle.newer_camera.specs.OldReader.{MeetsNewerCameras}
use Rattle.newer_camera.proofs.Meeting.{met}
use Rattle.newer_camera.proofs.Unaltered.{old_unaltered, answer_unaltered}

-- the reading, with the group forced or with groups named by containers
pub newer_camera : (forced : Bool) → MeetsNewerCameras forced (reading_of forced)
newer_camera forced s t put room rs headers e =
    record {
      met = met forced put room rs headers e;
      unaltered =
          λ o lent. record {
            met = met forced (put_again o) room rs headers e lent;
            old_rows = ap (λ (f : Record → Record). map f rs) (λ i r. old_unaltered o r i);
            same_answer = answer_unaltered o forced lent;
          };
    }
