-- Numbers of errors.
use Rattle.std.proofs.Common.{◌≢◌}
use Rattle.sp_base.specs.declared.errno.Errno.{Errno}
use Rattle.sp_base.specs.declared.errno.Errno.TheVariants.{Eperm, Enoent, Eio, Ebadf, Enomem, Efault, Ebusy, Eexist, Exdev, Enotdir, Eisdir, Einval, Emfile, Efbig, Enospc, Espipe, Emlink, Epipe, Eagain, Enotsock, Edestaddrreq, Emsgsize, Eprototype, Eopnotsupp, Eafnosupport, Eaddrinuse, Eaddrnotavail, Enetunreach, Eisconn, Enotconn, Econnrefused, Enametoolong, Enotempty, Enosys}
use Rattle.sp_base.specs.Errno.{errno_number}

-- no error has the number 0
pub no_error_is_zero : (e : Errno) → errno_number e ≢ 0
no_error_is_zero Eperm = λ e. cc
no_error_is_zero Enoent = λ e. cc
no_error_is_zero Eio = λ e. cc
no_error_is_zero Ebadf = λ e. cc
no_error_is_zero Enomem = λ e. cc
no_error_is_zero Efault = λ e. cc
no_error_is_zero Ebusy = λ e. cc
no_error_is_zero Eexist = λ e. cc
no_error_is_zero Exdev = λ e. cc
no_error_is_zero Enotdir = λ e. cc
no_error_is_zero Eisdir = λ e. cc
no_error_is_zero Einval = λ e. cc
no_error_is_zero Emfile = λ e. cc
no_error_is_zero Efbig = λ e. cc
no_error_is_zero Enospc = λ e. cc
no_error_is_zero Espipe = λ e. cc
no_error_is_zero Emlink = λ e. cc
no_error_is_zero Epipe = λ e. cc
no_error_is_zero Eagain = λ e. cc
no_error_is_zero Enotsock = λ e. cc
no_error_is_zero Edestaddrreq = λ e. cc
no_error_is_zero Emsgsize = λ e. cc
no_error_is_zero Eprototype = λ e. cc
no_error_is_zero Eopnotsupp = λ e. cc
no_error_is_zero Eafnosupport = λ e. cc
no_error_is_zero Eaddrinuse = λ e. cc
no_error_is_zero Eaddrnotavail = λ e. cc
no_error_is_zero Enetunreach = λ e. cc
no_error_is_zero Eisconn = λ e. cc
no_error_is_zero Enotconn = λ e. cc
no_error_is_zero Econnrefused = λ e. cc
no_error_is_zero Enametoolong = λ e. cc
no_error_is_zero Enotempty = λ e. cc
no_error_is_zero Enosys = λ e. cc
