-- The grid, of every width, height and profile, has the laws that demand 3 rests on.
-- Assumes nothing.
use Prim.Native.Nat.{ℕ}
use mathlib.Core.Path.{refl}
use lib.Dec.{leb}
use borrow.Author.Tests.{leb-true}
use Rattle.network.specs.declared.Kind.TheVariants.{Waiting, B}
use Rattle.network.specs.Net.{NetLaws}
use Rattle.network.proofs.Tests.{and_r}
use Rattle.mesh.specs.declared.Profile.{Profile}
use Rattle.mesh.specs.Mesh.{mesh, last_code}
use Rattle.mesh.proofs.Metric.{distance_self, triangle}
use Rattle.mesh.proofs.Hops.{hop_on_grid, hop_one, hop_nearer, hop_settled, hop_queued, turn_down, turn_settled, out_there, unknown_never}
use Rattle.mesh.proofs.Codes.{out_code, delivers}
use Rattle.mesh.proofs.Onward.{waiting_goes, A_goes, B_goes}

pub mesh_laws : (width height : ℕ) (profile : Profile) → NetLaws (mesh width height profile)
mesh_laws width height profile = record {
  self = distance_self;
  triangle = triangle;
  known_last = λ c e. leb-true c last_code (and_r (leb 1 c) (leb c last_code) e);
  unknown_never = unknown_never profile;
  out_code = out_code profile;
  delivers = delivers profile;
  rule = λ h d gh gd. record {
    hop_valid = λ k c n e. hop_on_grid profile h d k c n e width height gh gd;
    hop_one = hop_one profile h d;
    hop_nearer = hop_nearer profile h d;
    hop_settled = λ c n s e. hop_settled profile h d B c n e s;
    hop_queued = λ c n e. hop_queued profile h d Waiting c n e refl;
    turn_down = turn_down profile h d;
    turn_settled = λ k c e. turn_settled profile h d k B c e refl;
    out_there = out_there profile h d;
    waiting_goes = waiting_goes profile h d;
    A_goes = A_goes profile h d;
    B_goes = B_goes profile h d;
  };
}
