use Rattle.xmp_meaning.proofs.PutAndGet as lemmas
use Rattle.xmp_meaning.proofs.rows.two_images_put_and_get.Goals as goal

pub returns : goal.returns
returns c = record { first = lemmas.put_first; second = lemmas.get_then }
