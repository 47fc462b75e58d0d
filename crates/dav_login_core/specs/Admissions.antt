-- What a login finds of a request, before the service is asked (own).
use Rattle.std.specs.Prelude.{◌≡◌, ℕ, Bool, true, false, List, None, Some, string_bytes}
use Rattle.http.specs.declared.request.Request.{Request}
use Rattle.http.specs.Request.{head_of}
use Rattle.dav_users_core.specs.Basic.{NameAndPassword}
use Rattle.dav_users_core.specs.Users.{is_password}
use Rattle.dav_login_core.specs.declared.admitting.Admitted.{Admitted}
use Rattle.dav_login_core.specs.declared.known.Known.{Known}
use Rattle.dav_login_core.specs.declared.known.Lesson.{Lesson}
use Rattle.dav_login_core.specs.declared.known.Lesson.TheVariants.{Nothing, Used, New}
use Rattle.dav_login_core.specs.declared.weighing.Standing.{Standing}
use Rattle.dav_login_core.specs.declared.weighing.Standing.TheVariants.{Accepted, Right, Wrong, Again, TooMany}
use Rattle.dav_login_core.specs.Digests.{Learns, WasAcceptedOf, WasRefused, digest, is_known, is_refused, moved_to_end}
use Rattle.dav_login_core.specs.LoggedIn.{Door, IsPassedOn}
use Rattle.dav_login_core.specs.Sending.{name_and_password_sent}

-- they are neither known, nor were they refused from the label
pub record IsUntried (door : Door) (known : List Known) (refused : List (ℕ × List ℕ)) (label : ℕ) (name password : List ℕ) : Type 0 where
  pub unknown : is_known known (digest door.key name password) ≡ false
  pub untried : is_refused refused label (digest door.key name password) ≡ false

-- What is said of a name and a password from a label. What was refused from it is not hashed again, and neither is what is known.
abbrev pub WeighsUp : Door → List Known → List (ℕ × List ℕ) → ℕ → List ℕ → List ℕ → Standing → Type 0
WeighsUp door known refused label name password Accepted = is_known known (digest door.key name password) ≡ true
WeighsUp door known refused label name password Right =
    IsUntried door known refused label name password × (is_password door.users name password ≡ true)
WeighsUp door known refused label name password Wrong =
    IsUntried door known refused label name password × (is_password door.users name password ≡ false)
WeighsUp door known refused label name password Again =
    (is_refused refused label (digest door.key name password) ≡ true) × WasRefused door.users door.key (digest door.key name password)
WeighsUp door known refused label name password TooMany = IsUntried door known refused label name password

-- it is the digest of a user's name and password
abbrev pub IsRight : Door → Known → Type 0
IsRight door k = WasAcceptedOf door.users door.key (string_bytes k.name) k.digest

-- what is new is a user's
abbrev pub MayLearn : Door → Lesson → Type 0
MayLearn door Nothing = Unit {0}
MayLearn door (Used kept) = Unit {0}
MayLearn door (New k) = IsRight door k

-- what is known behind a lesson
abbrev pub LearnsBy : Lesson → List Known → List Known → Type 0
LearnsBy Nothing old new = new ≡ old
LearnsBy (Used kept) old new = new ≡ moved_to_end kept old
LearnsBy (New k) old new = Learns k.digest old new

-- it is what the request sends, and is known or not
abbrev pub IsSentAs : Door → List Known → Bool → Request (List ℕ) → List ℕ → Type 0
IsSentAs door known is_known_already request kept =
    (given : NameAndPassword) × (name_and_password_sent (head_of request).headers ≡ Some given) × (kept ≡ digest door.key given.name given.password)
    × (is_known known kept ≡ is_known_already)

-- it may be learned of a request that is let in
abbrev pub IsLessonOf : Door → List Known → Request (List ℕ) → Lesson → Type 0
IsLessonOf door known request Nothing = name_and_password_sent (head_of request).headers ≡ None
IsLessonOf door known request (Used kept) = IsSentAs door known true request kept
IsLessonOf door known request (New k) = IsRight door k × IsSentAs door known false request k.digest

-- the service is to be asked, and this is to be learned
pub record IsFoundToBe (door : Door) (known : List Known) (request : Request (List ℕ)) (admitted : Admitted) : Type 0 where
  pub passed : IsPassedOn door request admitted.inner
  pub lesson : IsLessonOf door known request admitted.lesson
