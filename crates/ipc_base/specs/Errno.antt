-- The error numbers of errno(3): each name has the number that Linux gives it.
use Rattle.std.specs.Prelude.{ℕ}
use Rattle.ipc_base.specs.declared.errno.Errno.{Errno}
use Rattle.ipc_base.specs.declared.errno.Errno.TheVariants.{EPERM, ENOENT, EINTR, EIO, E2BIG, EBADF, EAGAIN, ENOMEM}
use Rattle.ipc_base.specs.declared.errno.Errno.TheVariants.{EACCES, EBUSY, EEXIST, EINVAL, ENFILE, EMFILE, EFBIG}
use Rattle.ipc_base.specs.declared.errno.Errno.TheVariants.{ENOSPC, ERANGE, ENAMETOOLONG, ENOMSG, EIDRM, EPROTO}
use Rattle.ipc_base.specs.declared.errno.Errno.TheVariants.{EOVERFLOW, EMSGSIZE, ETIMEDOUT, EALREADY}

abbrev pub number_of : Errno → ℕ
number_of EPERM = 1
number_of ENOENT = 2
number_of EINTR = 4
number_of EIO = 5
number_of E2BIG = 7
number_of EBADF = 9
number_of EAGAIN = 11
number_of ENOMEM = 12
number_of EACCES = 13
number_of EBUSY = 16
number_of EEXIST = 17
number_of EINVAL = 22
number_of ENFILE = 23
number_of EMFILE = 24
number_of EFBIG = 27
number_of ENOSPC = 28
number_of ERANGE = 34
number_of ENAMETOOLONG = 36
number_of ENOMSG = 42
number_of EIDRM = 43
number_of EPROTO = 71
number_of EOVERFLOW = 75
number_of EMSGSIZE = 90
number_of ETIMEDOUT = 110
number_of EALREADY = 114
